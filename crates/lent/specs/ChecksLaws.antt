-- LAWS. A replica that is lent, and what is true of it where every one is in its place.
use Rattle.std.specs.Prelude.{ℕ, ◌≤◌, ◌<◌, ◌≡◌, true, length}
use Rattle.std.proofs.Common.{arith}
use Rattle.protocol.proofs.AcceptanceLaws.{below_facts}
use Rattle.replica_model.specs.Layout.{replica_length, counters}
use Rattle.replica_model.specs.Calls.{in_place}
use Rattle.replica_model.specs.ClaimTerms as terms
use Rattle.replica_model.specs.ClaimTerms.{Right}
use Rattle.replica_model.proofs.RowLaws.{tests}
use Rattle.chassis_model.proofs.ListPartsLaws.{part_length}
use Rattle.lent.specs.declared.Replicas.{Replicas}
use Rattle.lent.specs.Lent.{lent_replica, are_placed}

module _ (replicas : Replicas) (i : ℕ) (below : i < replicas.sizes.cards) where
  pub replica_long : length (lent_replica replicas i) ≡ replica_length replicas.sizes.cards replicas.sizes.counters
  replica_long = let fit = replicas.fit in part_length replicas.sizes.cards _ i replicas.words.now (rw (← fit.replica_is) fit.long) below

  pub placed_right : 1 ≤ replicas.sizes.counters → are_placed replicas ≡ true → Right (lent_replica replicas i) × (counters (lent_replica replicas i) ≡ replicas.sizes.counters)
  unfolding are_placed
  placed_right some placed =
      let is = simp tests at (below_facts replicas.sizes.cards (λ i. in_place replicas.sizes.cards replicas.sizes.counters i (lent_replica replicas i)) placed i below) in
      let cards_are = is.0.0.0 in
      let counters_are = is.0.0.1 in
      let fit = replicas.fit in
      let sized : terms.Sizes replicas.sizes.cards replicas.sizes.counters
      = record { some_cards = omega arith; few_cards = fit.few_cards; some_counters = some; few_counters = fit.few_counters } in (
        record {
          sizes = rw (cards_are, counters_are) sized;
          own = rw (is.0.1, cards_are) below;
          fits = rw (cards_are, counters_are) replica_long;
          low = rw counters_are is.1;
        },
        counters_are,
      )
