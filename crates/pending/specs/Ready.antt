-- LAWS. What the rounds are given.
use Rattle.std.specs.Prelude.{ℕ, List}
use Rattle.chassis_model.specs.Run.{state_of}
use Rattle.chassis_model.proofs.Ends.{ends_in}
use Rattle.chassis_model.proofs.Places.{PlacesOf}
use Rattle.chassis_model.proofs.PendingChecked.{Checked}
use Rattle.chassis.specs.declared.Sizes.{Sizes}
use Rattle.chassis.specs.StepCodeLaws.{WordsFit}

-- words and logs that pass the checks, and the places of the links in them
pub record PumpReady (sizes : Sizes) (words logs places : List ℕ) : Type 0 where
  pub words_fit : WordsFit sizes words
  pub checked : Checked sizes.cards sizes.counters sizes.log_bytes (state_of words logs)
  pub places_are : PlacesOf sizes.cards (ends_in sizes.cards sizes.counters sizes.log_bytes (state_of words logs)) places
