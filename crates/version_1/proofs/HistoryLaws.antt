-- LAWS. A run of old and new cards is a driver's history of today's calls: each accepted step is the call of today that leaves the same cards.
use Rattle.std.specs.Prelude.{ℕ, ◌≡◌, refl, Bool, true, cond, eqb}
use Rattle.std.proofs.Math.Path.{ap}
use Rattle.std.proofs.Common.{◌∙◌, ne_eqb}
use mathlib.Core.List.{List, [], ◌∷◌}
use Rattle.protocol.proofs.Cases.{by_test}
use Rattle.wire.specs.Message.{log_bytes, messages_from}
use Rattle.conversion.specs.Conversion.{converted}
use Rattle.replica_model.specs.Layout.{fresh_words}
use Rattle.replica_model.specs.Calls.{sizes_in_range}
use Rattle.replica_model.proofs.RowLaws.{sizes}
use Rattle.chassis_model.specs.Driver.{Call, Genuine, after, opened, cards_after, GenuineHistory}
use Rattle.version_1.specs.Run.{Step, Chassis, fresh, after_steps}
use Rattle.version_1.specs.History.{call_of, calls_of, cards_of}
use Rattle.version_1.proofs.Beside.{Beside, fresh_beside}
use Rattle.version_1.proofs.StepBeside.{step_cases}

-- the calls, from st on, are genuine and leave the cards that `last` is
abbrev IsHistory : (ℕ → Bool) → List Call → (st last : Chassis) → Type 0
IsHistory is_old calls st last = Genuine calls (cards_of is_old st) × (after calls (cards_of is_old st) ≡ cards_of is_old last)

module _ (is_old : ℕ → Bool) (r k L : ℕ) where
  one_history : (s : Step) (ss : List Step) (st : Chassis) → Beside is_old r k st
      → ((next : Chassis) → Beside is_old r k next → IsHistory is_old (calls_of is_old r L ss next) next (after_steps is_old r L ss next)) → IsHistory is_old (calls_of is_old r L (s ∷ ss) st) st (after_steps is_old r L (s ∷ ss) st)
  unfolding calls_of after_steps after
  one_history s ss st now rest =
      step_cases now L s
      (λ x.
      let calls = calls_of is_old r L ss x.chassis in
      IsHistory is_old (cond (eqb x.number 0) (call_of is_old r s st ∷ calls) calls) st (after_steps is_old r L ss x.chassis))
      (λ n some. rw (ne_eqb n 0 some) (rest st now))
      (λ next is.
      let (genuine, same) = rest next is.beside in
      ((is.genuine, rw is.leaves genuine), ap (after (calls_of is_old r L ss next)) is.leaves ∙ same))

  steps_history : (steps : List Step) (st : Chassis) → Beside is_old r k st → IsHistory is_old (calls_of is_old r L steps st) st (after_steps is_old r L steps st)
  unfolding calls_of after_steps after
  steps_history [] st now = (tt, refl)
  steps_history (s ∷ ss) st now = one_history s ss st now (steps_history ss)

-- at the beginning nothing is written
fresh_cards : (is_old : ℕ → Bool) (r k : ℕ) → cards_of is_old (fresh r k) ≡ opened r k
unfolding converted messages_from log_bytes
fresh_cards is_old r k = λ x. record { words = λ i. fresh_words r k i; written = λ i. none i x }
  where
    none : (i : ℕ) → (cards_of is_old (fresh r k)).written i ≡ []
    none i = by_test (is_old i) (λ t. rw t) (λ f. rw f)

pub is_history : (is_old : ℕ → Bool) (r k L : ℕ) → sizes_in_range r k ≡ true → (steps : List Step)
    → let calls = calls_of is_old r L steps (fresh r k) in
    GenuineHistory r k calls × (cards_after r k calls ≡ cards_of is_old (after_steps is_old r L steps (fresh r k)))
is_history is_old r k L fits steps =
    rw (← (fresh_cards is_old r k)) (steps_history is_old r k L steps (fresh r k) (fresh_beside is_old r k (sizes r k fits)))
