-- LAWS. A run in the middle: what the steps that are left make of the present state is what all steps make of the first one, and the answers so far
-- are the first answers of all. Both forms of steps, bytes and records, keep this.
use Rattle.std.specs.Prelude.{ℕ, suc, ◌+◌, ◌-◌, ◌*◌, ◌/◌, ◌≤◌, ◌<◌, ◌≡◌, refl, take, drop}
use Rattle.std.proofs.Math.Path.{sym}
use Rattle.std.proofs.Common.{ap, ◌∙◌, arith, length-append, length-take-le, take_at}
use mathlib.Core.List.{List, [], ◌∷◌, ◌++◌, append_assoc, append-nil}
use Rattle.std.proofs.Math.Nat.{mul-div_cancel_left}
use Rattle.std.proofs.Math.ListN.{length}
use Rattle.std.proofs.lemmas.List.Edits.{sets, sets-eq}
use Rattle.std.proofs.Math.Seq.{length-sets, take_all}
use Rattle.chassis_model.specs.declared.Step.{Step}
use Rattle.chassis_model.specs.declared.StepAnswer.{StepAnswer}
use Rattle.chassis_model.specs.Run.{State, answer_words, answer_length, step_on, state_after, answers_of, step_length, step_at, steps_at, steps_of}
use Rattle.chassis_model.proofs.RunLaws.{steps_length}

-- `rest` is left of `steps`, which began at `first`; i of them are done
pub record Running (r k L : ℕ) (steps : List Step) (first : State) (rest : List Step) (st : State) (i : ℕ) (answers : List ℕ) : Type 0 where
  pub ends : state_after r k L rest st ≡ state_after r k L steps first
  pub answered : take (i * answer_length) answers ++ answers_of r k L rest st ≡ answers_of r k L steps first
  pub room : length answers ≡ (i + length rest) * answer_length

-- the answers up to step i's, once that is laid
laid : (answers : List ℕ) (i : ℕ) (a : StepAnswer) → i * answer_length + answer_length ≤ length answers
    → take ((i + 1) * answer_length) (sets answers (i * answer_length) (answer_words a)) ≡ take (i * answer_length) answers ++ answer_words a
laid answers i a inside =
    let at : ℕ = i * answer_length in
    let long : length (take at answers ++ answer_words a) ≡ (i + 1) * answer_length
    = length-append (take at answers) (answer_words a) ∙ omega (arith, length-take-le at answers (omega arith)) in
    rw (sets-eq (answer_words a) answers at inside) (take_at (take at answers ++ answer_words a) (drop (at + answer_length) answers) ((i + 1) * answer_length) long)

module _ (r k L : ℕ) (steps : List Step) (first : State) where
  pub running_begins : (answers : List ℕ) → length answers ≡ length steps * answer_length → Running r k L steps first steps first 0 answers
  running_begins answers fits = record { ends = refl; answered = refl; room = omega arith }

  pub running_next : (s : Step) (rest : List Step) (st st' : State) (i : ℕ) (answers : List ℕ) → st' ≡ (step_on r k L s st).state
      → Running r k L steps first (s ∷ rest) st i answers
      → Running r k L steps first rest st' (i + 1) (sets answers (i * answer_length) (answer_words (step_on r k L s st).answer))
  unfolding state_after answers_of
  running_next s rest st st' i answers est h =
      let a = (step_on r k L s st).answer in
      let inside : i * answer_length + answer_length ≤ length answers = omega (arith, h.room) in
      rw est (record {
        ends = h.ends;
        answered = rw (laid answers i a inside, append_assoc) h.answered;
        room = rw (length-sets answers (i * answer_length) (answer_words a)) (omega (arith, h.room));
      })

  pub running_done : (st : State) (i : ℕ) (answers : List ℕ) → Running r k L steps first [] st i answers
      → (state_after r k L steps first ≡ st) × (answers_of r k L steps first ≡ answers)
  unfolding state_after answers_of
  running_done st i answers h =
      let full : length answers ≤ i * answer_length = omega (arith, h.room) in
      (sym h.ends, sym h.answered ∙ append-nil (take (i * answer_length) answers) ∙ take_all (i * answer_length) answers full)

-- ---- steps as bytes

-- what is left of n steps once i are done
abbrev pub left : List ℕ → ℕ → ℕ → List Step
left bytes n i = steps_at (n - i) bytes (step_length * i)

left_next : (bytes : List ℕ) (n i : ℕ) → i < n → left bytes n i ≡ step_at bytes (step_length * i) ∷ left bytes n (i + 1)
unfolding steps_at
left_next bytes n i more =
    let one : n - i ≡ suc (n - (i + 1)) = omega arith in
    let place : step_length * i + step_length ≡ step_length * (i + 1) = omega arith in
    rw one (ap (λ (at : ℕ). step_at bytes (step_length * i) ∷ steps_at (n - (i + 1)) bytes at) place)

left_none : (bytes : List ℕ) (n i : ℕ) → n ≤ i → left bytes n i ≡ []
unfolding steps_at
left_none bytes n i done = let none : n - i ≡ 0 = omega arith in rw none

module _ (r k L : ℕ) (bytes : List ℕ) (n : ℕ) (first : State) where
  -- i of the n steps are done
  abbrev pub RunningBytes : State → ℕ → List ℕ → Type 0
  RunningBytes st i answers = Running r k L (steps_of bytes) first (left bytes n i) st i answers

  pub bytes_begin : (answers : List ℕ) → length bytes ≡ step_length * n → length answers ≡ n * answer_length → RunningBytes first 0 answers
  bytes_begin answers fits room =
      let count : length bytes / step_length ≡ n = rw fits (mul-div_cancel_left n (omega arith)) in
      let whole : n - 0 ≡ n = omega arith in
      let all : left bytes n 0 ≡ steps_of bytes = rw (count, whole) in
      rw all (running_begins r k L (steps_of bytes) first answers (rw (steps_length (length bytes / step_length) bytes 0, count) room))

  pub bytes_next : (s : Step) (st st' : State) (i : ℕ) (answers : List ℕ) → i < n → s ≡ step_at bytes (step_length * i) → st' ≡ (step_on r k L s st).state
      → RunningBytes st i answers → RunningBytes st' (i + 1) (sets answers (i * answer_length) (answer_words (step_on r k L s st).answer))
  bytes_next s st st' i answers more here est h =
      running_next r k L (steps_of bytes) first s (left bytes n (i + 1)) st st' i answers est (rw (here, ← (left_next bytes n i more)) h)

  pub bytes_done : (st : State) (i : ℕ) (answers : List ℕ) → n ≤ i → RunningBytes st i answers
      → (state_after r k L (steps_of bytes) first ≡ st) × (answers_of r k L (steps_of bytes) first ≡ answers)
  bytes_done st i answers done h = running_done r k L (steps_of bytes) first st i answers (rw (left_none bytes n i done) at h)
