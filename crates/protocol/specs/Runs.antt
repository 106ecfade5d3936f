-- DEFINITIONS. What the claims speak of: a run from a fresh chassis, the ledger that was told which of its steps were accepted, and lists of which no
-- accepted step is one that refusal 4 covers.
use Rattle.std.specs.Prelude.{ℕ, ◌+◌, ◌≤◌, ◌<◌, ◌≡◌, Bool, true, List, [], ◌∷◌, map}
use Rattle.protocol.specs.Ledger.{Step, count, clear, deliver, Ledger, empty_ledger, after_steps}
use Rattle.protocol.specs.Chassis.{Chassis, fresh_chassis, Offer, accepted, stepped, run, answers}

abbrev pub step_of : Offer → Step
step_of o = o.step

-- "All replicas begin fresh."
abbrev pub after_run : ℕ → List Offer → Chassis
after_run r os = run r os fresh_chassis

-- "It is fed the list's steps in order and told which of them were accepted (number 0)."
abbrev pub ledger_after : ℕ → ℕ → List Offer → Ledger
ledger_after r q os = after_steps r q (map step_of os) (answers r os fresh_chassis) empty_ledger

-- as many flags as the list has elements, each "accepted"
abbrev pub all_accepted {ℓ} : {A : Type ℓ} → List A → List Bool
all_accepted ss = map (λ s. true) ss

-- ---- what refusal 4 does not cover; `most` is MAX

-- "Own N = MAX, or own C + w above MAX"
abbrev pub StepWithin : ℕ → Step → Chassis → Type 0
StepWithin most (count i q w) st = ((st.replica i).N i < most) × ((st.replica i).C i + w ≤ most)
StepWithin most (clear i q) st = (st.replica i).N i < most
StepWithin most (deliver i s) st = Unit {0}

-- no accepted step of the list is one that 4 covers
abbrev pub StepsWithin : ℕ → ℕ → List Offer → Chassis → Type 0
StepsWithin most r [] st = Unit {0}
StepsWithin most r (o ∷ os) st = (accepted r o st ≡ true → StepWithin most o.step st) × StepsWithin most r os (stepped r o st)
