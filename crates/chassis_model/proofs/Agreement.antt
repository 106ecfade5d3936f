-- LAWS. Cards of a run of the theory (`TheoryRun`) that have received the same messages read the same of every counter. `protocol`'s `same_received_agree` says so of
-- the theory's replicas; here it is said of words, so that a run, a run with calls of `deliver_pending` and a driver's history need only count messages.
use Rattle.std.specs.Prelude.{ℕ, ◌≤◌, ◌<◌, ◌≡◌, List}
use Rattle.std.proofs.Math.Path.{sym}
use Rattle.std.proofs.Common.{◌∙◌, arith}
use Rattle.protocol.proofs.Cases.{by_place}
use Rattle.protocol.specs.Ledger.{Step, holds}
use Rattle.protocol.specs.Chassis.{Chassis}
use Rattle.protocol.specs.Runs.{after_run}
use Rattle.protocol.proofs.Theorem.{value_is, holders_are}
use Rattle.protocol.proofs.Refusals.{received_within}
use Rattle.protocol.proofs.Arrivals.{after_steps_arrivals}
use Rattle.protocol.proofs.Agreement.{same_received_agree}
use Rattle.protocol.specs.RoundRobin.{IsLink}
use Rattle.protocol.proofs.AcceptanceLaws.{count_cong}
use Rattle.replica_model.specs.Layout.{N_of}
use Rattle.replica_model.specs.Calls.{read_on}
use Rattle.chassis_model.specs.Ledger.{ledger_reading}
use Rattle.chassis_model.proofs.InStep.{cards_at, reached_N}
use Rattle.chassis_model.proofs.Offers.{offers_of, ledgers_told, TheoryRun}
use Rattle.chassis_model.proofs.TheoryReads.{reading_is}

module _ {r k : ℕ} {steps : List Step} {numbers : List ℕ} {replicas : ℕ → List ℕ} (t : TheoryRun r k steps numbers replicas) where
  abbrev ch : Chassis
  ch = after_run r (offers_of steps numbers)

  N_is : (i s : ℕ) → i < r → s < r → N_of r (replicas i) s ≡ (ch.replica i).N s
  N_is = reached_N (cards_at t.cards)

  pub same_reads : (i j : ℕ) → i < r → j < r → ((s : ℕ) → s < r → N_of r (replicas i) s ≡ N_of r (replicas j) s)
      → (q : ℕ) → q < k → read_on (replicas i) q ≡ read_on (replicas j) q
  unfolding ledger_reading
  same_reads i j hi hj same q hq =
      let l = ledgers_told r steps numbers q in
      let ok = t.cards.invariants q in
      let cards_show = same_received_agree r q ch l ok (after_steps_arrivals r q _ _) i j (λ s hs. sym (N_is i s hi hs) ∙ same s hs ∙ N_is j s hj hs) in
      reading_is t i q hi hq
      ∙ rw (
        sym (value_is r q ch l ok i) ∙ cards_show.value ∙ value_is r q ch l ok j,
        sym (holders_are r q ch l ok i) ∙ cards_show.holders ∙ holders_are r q ch l ok j,
        count_cong r (λ o. holds i o l) (λ o. holds j o l) (λ o m. cards_show.holding o),
      )
      (sym (reading_is t j q hj hq))

  -- a card on whose links nothing waits has received all that was made
  pub received_all : (i : ℕ) → i < r → ((s : ℕ) → IsLink r i s → N_of r (replicas s) s ≤ N_of r (replicas i) s)
      → (s : ℕ) → s < r → N_of r (replicas i) s ≡ N_of r (replicas s) s
  received_all i hi all s hs =
      by_place i s
      (λ e. rw e)
      (λ d.
      let a = N_is i s hi hs in
      let b = N_is s s hs hs in
      let c = (received_within r 0 ch _ (t.cards.invariants 0) i s).1 in
      let d = all s (hi, hs, d) in
      omega arith)
