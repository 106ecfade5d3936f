-- LAWS. A run of records: that a step keeps `Running` of what is left of the records, and its two outcomes.
use Rattle.std.specs.Prelude.{ℕ, ◌+◌, ◌*◌, ◌≤◌, ◌<◌, ◌≡◌, refl, true, false, List, length, get_or, drop}
use Rattle.std.proofs.Common.{add-one, arith, drop_of_length-le, drop-cons}
use Rattle.protocol.specs.Limits.{bad_sizes}
use Rattle.chassis_model.specs.declared.Step.{Step}
use Rattle.chassis_model.specs.Run.{State, answer_length, RunOutcome, fresh_replicas, run_on}
use Rattle.chassis.specs.SizesOf.{sizes_of}
use Rattle.chassis.specs.BeginLaws.{lengths_right, sizes_by_length, right_lengths}
use Rattle.chassis.specs.StepCodeLaws.{SizesFit, state_of, StepAnswered}
use Rattle.chassis.proofs.RunningLaws.{Running, running_next, running_done}

module _ (r k L : ℕ) (steps : List Step) (words logs answers : List ℕ) where
  -- what the run's contract says
  abbrev pub Gives : ℕ → List ℕ → List ℕ → List ℕ → Type 0
  Gives n words' logs' answers' =
      ◌≡◌ {A = RunOutcome} (record { number = n; words = words'; logs = logs'; answers = answers' }) (run_on r k L steps words logs answers)

  -- the sizes are wrong
  pub declined : lengths_right r k L (length steps) (length words) (length logs) (length answers) ≡ false → Gives bad_sizes words logs answers
  unfolding run_on
  declined wrong = rw (sizes_by_length r k L (length steps) words logs answers, wrong)

  module _ (right : lengths_right r k L (length steps) (length words) (length logs) (length answers) ≡ true) where
    pub begun_answers : length answers ≡ length steps * answer_length
    begun_answers = omega (arith, (right_lengths r k L (length steps) (length words) (length logs) (length answers) right).answers_fit)

    pub begun_sizes : SizesFit (sizes_of r k L) (length words) (length logs)
    begun_sizes =
        let facts = right_lengths r k L (length steps) (length words) (length logs) (length answers) right in
        record { sized = facts.sized; replica_is = refl; words_fit = facts.words_fit; logs_fit = facts.logs_fit }

    -- no record is left
    pub finished : (i : ℕ) (words'' logs'' answers'' : List ℕ) → length steps ≤ i
        → Running r k L steps (state_of (fresh_replicas r k r) logs) (drop i steps) (state_of words'' logs'') i answers'' → Gives 0 words'' logs'' answers''
    unfolding run_on
    finished i words'' logs'' answers'' over running =
        let ends = running_done r k L steps (state_of (fresh_replicas r k r) logs) (state_of words'' logs'') i answers'' (rw (drop_of_length-le steps {i = i} over) at running) in
        rw (sizes_by_length r k L (length steps) words logs answers, right, ends.0, ends.1)

-- record i is taken
pub record_next : (r k L : ℕ) (steps : List Step) (first : State) (i : ℕ) (d : Step) (st st' : State) (answers answers' : List ℕ) → i < length steps
    → StepAnswered (sizes_of r k L) (get_or steps i d) i st answers st' answers'
    → Running r k L steps first (drop i steps) st i answers → Running r k L steps first (drop (i + 1) steps) st' (i + 1) answers'
record_next r k L steps first i d st st' answers answers' small did running =
    rw did.answers_are
    (running_next r k L steps first (get_or steps i d) (drop (i + 1) steps) st st' i answers did.state_is
    (rw (add-one i, ← (drop-cons steps i d small)) running))
