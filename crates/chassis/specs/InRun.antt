-- LAWS. A chassis in a run: its state, what a step keeps of it, and how it begins.
use Rattle.std.specs.Prelude.{ℕ, ◌≡◌, List}
use Rattle.std.proofs.Common.{◌∙◌}
use Rattle.chassis_model.specs.Run.{State, state_of, fresh_replicas}
use Rattle.chassis.specs.declared.Sizes.{Sizes}
use Rattle.chassis.specs.declared.stepping.Chassis.{Chassis}
use Rattle.chassis.specs.StepCodeLaws.{StepReady}

abbrev pub state_in : Chassis → State
state_in chassis = state_of chassis.words.now chassis.logs.now

-- that a run has reached it, with the chassis and the ledgers of the theory that it has reached
abbrev pub Ready : Chassis → Type 0
Ready chassis = StepReady chassis.sizes chassis.words.now chassis.logs.now chassis.places

-- the sizes stay, and words and logs are the same references
pub record Kept (chassis chassis' : Chassis) : Type 0 where
  pub sizes : chassis'.sizes ≡ chassis.sizes
  pub words : chassis'.words.ghost_name ≡ chassis.words.ghost_name
  pub logs : chassis'.logs.ghost_name ≡ chassis.logs.ghost_name

pub kept_after : {chassis chassis' chassis'' : Chassis} → Kept chassis chassis' → Kept chassis' chassis'' → Kept chassis chassis''
kept_after h h' = record { sizes = h'.sizes ∙ h.sizes; words = h'.words ∙ h.words; logs = h'.logs ∙ h.logs }

-- every replica is fresh, and the logs are as they were lent
pub record Begun (sizes : Sizes) (logs : List ℕ) (chassis : Chassis) : Type 0 where
  pub sizes_are : chassis.sizes ≡ sizes
  pub state_is : state_in chassis ≡ state_of (fresh_replicas sizes.cards sizes.counters sizes.cards) logs
