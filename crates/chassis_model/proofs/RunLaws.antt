-- LAWS. A run by its sizes: accepted exactly when they are right, and otherwise 11 with all as it was. Lists of steps one after the other.
use Rattle.std.specs.Prelude.{ℕ, zero, suc, ◌+◌, ◌*◌, ◌/◌, ◌%◌, ◌≡◌, ◌↔◌, true, eqb, length}
use Rattle.std.proofs.Math.Path.{refl, ap}
use mathlib.Core.List.{List, [], ◌∷◌, ◌++◌}
use Rattle.std.proofs.Common.{arith, eq-eqb, ne_eqb}
use Rattle.protocol.specs.Limits.{bad_sizes}
use Rattle.protocol.proofs.Cases.{by_test, by_place, and_left}
use Rattle.chassis_model.specs.Run.{Step, State, step_on, state_after, answer_length, answers_of, chassis_fits, sizes_right, run_on, step_length, steps_at, steps_of, run_bytes_on}
use Rattle.chassis_model.specs.Answers.{fresh_state}

module _ (r k L : ℕ) (steps : List Step) (words logs answers : List ℕ) where
  pub accepted_sizes : let after = run_on r k L steps words logs answers in
      ((after.number ≡ 0) ↔ (sizes_right r k L (length steps) words logs answers ≡ true))
      × ((after.number ≡ 0 → ⊥) → after ≡ record { number = bad_sizes; words = words; logs = logs; answers = answers })
  unfolding run_on
  accepted_sizes =
      by_test (sizes_right r k L (length steps) words logs answers)
      (λ e. rw e ((λ z. refl, λ z. refl), λ declined. absurd (declined refl)))
      (λ e. rw e ((λ z. absurd (omega arith), λ z. cc), λ declined. refl))

  -- what it is then
  pub run_is : sizes_right r k L (length steps) words logs answers ≡ true
      → let begin = fresh_state r k L logs in
      run_on r k L steps words logs answers
      ≡ record { number = 0; words = (state_after r k L steps begin).words; logs = (state_after r k L steps begin).logs; answers = answers_of r k L steps begin }
  unfolding run_on
  run_is right = rw right

-- sizes that are right for m steps, and answer words for n
pub right_for : (r k L m n : ℕ) (words logs answers answers' : List ℕ) → sizes_right r k L m words logs answers ≡ true → length answers' ≡ answer_length * n
    → sizes_right r k L n words logs answers' ≡ true
unfolding sizes_right
right_for r k L m n words logs answers answers' right long =
    let fits = and_left (chassis_fits r k L (length words) (length logs)) (eqb (length answers) (answer_length * m)) right in
    rw (fits, eq-eqb (length answers') (answer_length * n) long)

-- ---- lists of steps one after the other

module _ (r k L : ℕ) where
  pub after_append : (ss ts : List Step) (st : State) → state_after r k L (ss ++ ts) st ≡ state_after r k L ts (state_after r k L ss st)
  unfolding state_after
  after_append [] ts st = refl
  after_append (s ∷ ss) ts st = after_append ss ts (step_on r k L s st).state

  pub answers_append : (ss ts : List Step) (st : State)
      → answers_of r k L (ss ++ ts) st ≡ answers_of r k L ss st ++ answers_of r k L ts (state_after r k L ss st)
  unfolding answers_of state_after
  answers_append [] ts st = refl
  answers_append (s ∷ ss) ts st =
      let stepped = step_on r k L s st in ap (λ xs. stepped.answer.number ∷ stepped.answer.value ∷ xs) (answers_append ss ts stepped.state)

-- ---- steps as bytes

pub steps_length : (n : ℕ) (bytes : List ℕ) (at : ℕ) → length (steps_at n bytes at) ≡ n
unfolding steps_at
steps_length zero bytes at = refl
steps_length (suc n) bytes at = ap suc (steps_length n bytes (at + step_length))

module _ (r k L : ℕ) (bytes words logs answers : List ℕ) where
  pub whole_steps : length bytes % step_length ≡ 0 → run_bytes_on r k L bytes words logs answers ≡ run_on r k L (steps_of bytes) words logs answers
  unfolding run_bytes_on
  whole_steps whole = rw (eq-eqb (length bytes % step_length) 0 whole)

  pub accepted_sizes_over_bytes : let after = run_bytes_on r k L bytes words logs answers in
      ((after.number ≡ 0) ↔ ((length bytes % step_length ≡ 0) × (sizes_right r k L (length bytes / step_length) words logs answers ≡ true)))
      × ((after.number ≡ 0 → ⊥) → after ≡ record { number = bad_sizes; words = words; logs = logs; answers = answers })
  unfolding run_bytes_on
  accepted_sizes_over_bytes =
      by_place (length bytes % step_length) 0
      (λ whole.
      let as_records = rw (steps_length (length bytes / step_length) bytes 0) at (accepted_sizes r k L (steps_of bytes) words logs answers) in
      rw (eq-eqb (length bytes % step_length) 0 whole) ((λ z. (whole, as_records.0.0 z), λ z. as_records.0.1 z.1), as_records.1))
      (λ uneven. rw (ne_eqb (length bytes % step_length) 0 uneven) ((λ z. absurd (omega arith), λ z. absurd (uneven z.0)), λ declined. refl))
