-- DEFINITIONS. What may stand behind a cancelled increment.
use Rattle.std.specs.Prelude.{ℕ, ◌≡◌, true, List, ◌∷◌, ◌++◌}
use Rattle.protocol.specs.Names.{Name, has}
use Rattle.protocol.specs.Ledger.{clear}
use Rattle.protocol.specs.Chassis.{Offer, accepted}
use Rattle.protocol.specs.Runs.{after_run, ledger_after}

-- Behind some first steps of the list an accepted clear of q was made by a card that had received the increment named n.
pub record ClearedBySeer (r q : ℕ) (os : List Offer) (n : Name) : Type 0 where
  pub before : List Offer
  pub offer : Offer
  pub later : List Offer
  pub card : ℕ
  pub in_list : os ≡ before ++ offer ∷ later
  pub is_clear : offer.step ≡ clear card q
  pub was_accepted : accepted r offer (after_run r before) ≡ true
  pub had_received : has ((ledger_after r q before).received card) n ≡ true
