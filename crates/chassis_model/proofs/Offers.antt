-- LAWS. A list of steps and the numbers that were answered, as the theory has it (`offers_of`): each step offered, willing if it was answered with 0. Where the
-- theory accepts just the steps that were answered with 0, and the words are in step with its chassis after the list, these are words of a run of the theory
-- (`TheoryRun`), and every claim of `protocol` over lists (`after_run`) is one on them. A run is such, and so is a driver's history of calls.
use Rattle.std.specs.Prelude.{ℕ, ◌≡◌, Bool, List, [], ◌∷◌, map}
use Rattle.std.proofs.Common.{sym, ap₂}
use Rattle.protocol.specs.Ledger.{Step, Ledger, empty_ledger, after_steps}
use Rattle.protocol.specs.Chassis.{fresh_chassis, Offer, answers}
use Rattle.protocol.specs.Runs.{step_of, after_run}
use Rattle.chassis_model.specs.Ledger.{was_accepted, accepted_of}
use Rattle.chassis_model.proofs.InStep.{InStep}

-- a step as the theory has it: willing if it was accepted
abbrev pub offer : Step → ℕ → Offer
offer s number = record { step = s; willing = was_accepted number }

unfoldable pub offers_of : List Step → List ℕ → List Offer
offers_of [] ns = []
offers_of (s ∷ ss) [] = []
offers_of (s ∷ ss) (n ∷ ns) = offer s n ∷ offers_of ss ns

abbrev pub ledgers_told : ℕ → List Step → List ℕ → ℕ → Ledger
ledgers_told r steps numbers q = after_steps r q steps (accepted_of numbers) empty_ledger

pub record TheoryRun (r k : ℕ) (steps : List Step) (numbers : List ℕ) (replicas : ℕ → List ℕ) : Type 0 where
  pub cards : InStep r k replicas (after_run r (offers_of steps numbers)) (ledgers_told r steps numbers)
  pub steps_are : map step_of (offers_of steps numbers) ≡ steps
  pub answers_are : answers r (offers_of steps numbers) fresh_chassis ≡ accepted_of numbers

-- whatever is fed the steps and which of them were accepted is fed what the theory's run says
pub told {ℓ} : {X : Type ℓ} {r k : ℕ} {steps : List Step} {numbers : List ℕ} {replicas : ℕ → List ℕ} → TheoryRun r k steps numbers replicas
    → (feed : List Step → List Bool → X)
    → feed steps (accepted_of numbers) ≡ feed (map step_of (offers_of steps numbers)) (answers r (offers_of steps numbers) fresh_chassis)
told t feed = ap₂ feed (sym t.steps_are) (sym t.answers_are)
