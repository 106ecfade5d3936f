-- LAWS. The outcome of a run of bytes: declined by the length of the bytes, declined by its sizes, or all steps done from fresh replicas.
use Rattle.std.specs.Prelude.{ℕ, ◌*◌, ◌/◌, ◌%◌, ◌≡◌, refl, Bool, List, length}
use Rattle.std.proofs.Common.{◌∙◌, arith, eq-eqb, ne_eqb}
use Rattle.std.proofs.Math.Bool.{true, false}
use Rattle.std.proofs.Math.Nat.{div-add-mod}
use Rattle.protocol.specs.Limits.{bad_sizes}
use Rattle.chassis_model.specs.Run.{RunOutcome, sizes_right, fresh_replicas, run_on, answer_length, step_length, steps_of, run_bytes_on}
use Rattle.chassis_model.proofs.RunLaws.{steps_length}
use Rattle.chassis.specs.SizesOf.{sizes_of}
use Rattle.chassis.specs.BeginLaws.{lengths_right, sizes_by_length, right_lengths}
use Rattle.chassis.specs.StepCodeLaws.{SizesFit, state_of, RunDone}

module _ (r k L : ℕ) (bytes words logs answers : List ℕ) where
  -- what a declined run leaves
  abbrev pub declined : RunOutcome
  declined = record { number = bad_sizes; words = words; logs = logs; answers = answers }

  pub run_uneven : (length bytes % step_length ≡ 0 → ⊥) → declined ≡ run_bytes_on r k L bytes words logs answers
  unfolding run_bytes_on
  run_uneven uneven = rw (ne_eqb (length bytes % step_length) 0 uneven)

  module _ (even : length bytes % step_length ≡ 0) where
    sizes_are : (b : Bool) → lengths_right r k L (length bytes / step_length) (length words) (length logs) (length answers) ≡ b
        → sizes_right r k L (length (steps_of bytes)) words logs answers ≡ b
    sizes_are b right = rw (steps_length (length bytes / step_length) bytes 0) (sizes_by_length r k L (length bytes / step_length) words logs answers ∙ right)

    pub run_declined : lengths_right r k L (length bytes / step_length) (length words) (length logs) (length answers) ≡ false
        → declined ≡ run_bytes_on r k L bytes words logs answers
    unfolding run_bytes_on run_on
    run_declined wrong = rw (eq-eqb (length bytes % step_length) 0 even, sizes_are false wrong)

    module _ (right : lengths_right r k L (length bytes / step_length) (length words) (length logs) (length answers) ≡ true) where
      -- what the run begins with
      pub run_sizes : SizesFit (sizes_of r k L) (length words) (length logs)
      run_sizes =
          let facts = right_lengths r k L (length bytes / step_length) (length words) (length logs) (length answers) right in
          record { sized = facts.sized; replica_is = refl; words_fit = facts.words_fit; logs_fit = facts.logs_fit }

      -- what the steps are given
      pub steps_given : (length bytes ≡ step_length * (length bytes / step_length)) × (length answers ≡ length bytes / step_length * answer_length)
      steps_given =
          let facts = right_lengths r k L (length bytes / step_length) (length words) (length logs) (length answers) right in
          (omega (arith, div-add-mod (length bytes) step_length), omega (arith, facts.answers_fit))

      pub run_done : (words' logs' answers' : List ℕ)
          → RunDone (sizes_of r k L) (steps_of bytes) (state_of (fresh_replicas r k r) logs) (state_of words' logs') answers'
          → ◌≡◌ {A = RunOutcome} (record { number = 0; words = words'; logs = logs'; answers = answers' }) (run_bytes_on r k L bytes words logs answers)
      unfolding run_bytes_on run_on
      run_done words' logs' answers' done = rw (eq-eqb (length bytes % step_length) 0 even, sizes_are true right, ← done.state_is, ← done.answers_are)
