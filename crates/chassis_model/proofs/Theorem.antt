-- LAWS. A run beside the ledgers: by induction over the steps every state is reached, so reads are the ledger's readings and answers are those due.
use Rattle.std.specs.Prelude.{ℕ, suc, ◌*◌, ◌<◌, ◌≡◌, refl, Bool, true, ◌≢◌, List, [], ◌∷◌, ◌++◌, map, length}
use Rattle.std.proofs.Common.{sym, ap, ap₂, subst, ◌∙◌}
use Rattle.std.proofs.Math.Bool.{cond}
use Rattle.protocol.specs.Ledger as ledger
use Rattle.protocol.specs.Ledger.{Ledger, after_steps}
use Rattle.protocol.specs.Chassis as protocol
use Rattle.protocol.specs.Chassis.{Offer, run}
use Rattle.protocol.specs.Runs.{step_of}
use Rattle.protocol.specs.Acceptance.{plausible}
use Rattle.replica_model.specs.Layout.{replica_length, C_of, N_of}
use Rattle.replica_model.specs.Format.{format_2}
use Rattle.replica_model.specs.Calls.{row_well_formed, read_on, take_on}
use Rattle.replica_model.proofs.CallsLaws.{take_decided}
use Rattle.replica_model.proofs.RowLaws.{sizes, tests, row_from}
use Rattle.replica_model.proofs.Receivers.{take_passes}
use Rattle.chassis_model.specs.ListParts.{part}
use Rattle.chassis_model.specs.Log.{waiting_part}
use Rattle.chassis_model.specs.Run.{Step, action_of, State, Stepped, StepAnswer, replica_of, log_of, delivered, step_on, state_after, answers_of, numbers_in, chassis_fits, sizes_right, run_on, steps_of, run_bytes_on}
use Rattle.chassis_model.specs.Ledger.{ledger_step, was_accepted, accepted_of, ledger_of, ledger_reading}
use Rattle.chassis_model.specs.Answers.{fresh_state, value_asked, due_answer, answer_in, run_answer}
use Rattle.chassis_model.proofs.InStep.{cards_at, reached_row}
use Rattle.chassis_model.proofs.Matches.{Sizes, Matches, RunAt, run_at, run_cards, N_in}
use Rattle.chassis_model.proofs.DeliveredSteps.{one_delivered}
use Rattle.chassis_model.proofs.FreshRun.{fresh_matches}
use Rattle.chassis_model.proofs.StepLaws.{step_matches}
use Rattle.chassis_model.proofs.Offers.{offers_of, TheoryRun}
use Rattle.chassis_model.proofs.TheoryReads.{reading_is}
use Rattle.chassis_model.proofs.Agreement.{same_reads}
use Rattle.chassis_model.proofs.RunLaws.{accepted_sizes, whole_steps, accepted_sizes_over_bytes}
use Rattle.chassis_model.proofs.AnswerLaws.{step_value, step_answer, answer_at, due_is_answer}

-- the ledgers after a list of steps
abbrev pub ledgers_after : ℕ → ℕ → ℕ → List Step → State → (ℕ → Ledger) → ℕ → Ledger
ledgers_after r k L ss st ls q = after_steps r q (map ledger_step ss) (accepted_of (numbers_in (answers_of r k L ss st))) (ls q)

-- the list as the theory has it, from a state on
abbrev pub run_offers : ℕ → ℕ → ℕ → List Step → State → List Offer
run_offers r k L ss st = offers_of (map ledger_step ss) (numbers_in (answers_of r k L ss st))

offers_steps : (r k L : ℕ) (ss : List Step) (st : State) → map step_of (run_offers r k L ss st) ≡ map ledger_step ss
unfolding answers_of numbers_in offers_of
offers_steps r k L [] st = refl
offers_steps r k L (s ∷ ss) st = ap {B = List ledger.Step} (λ xs. ledger_step s ∷ xs) (offers_steps r k L ss (step_on r k L s st).state)

pub run_matches : {r k L : ℕ} (ss : List Step) (now : RunAt r k L)
    → Matches r k L (state_after r k L ss now.state) (run r (run_offers r k L ss now.state) now.chassis) (ledgers_after r k L ss now.state now.ledgers)
    × (protocol.answers r (run_offers r k L ss now.state) now.chassis ≡ accepted_of (numbers_in (answers_of r k L ss now.state)))
unfolding state_after answers_of numbers_in offers_of after_steps run protocol.answers
run_matches [] now = (now.matches, refl)
run_matches (s ∷ ss) now =
    let here = step_matches now s in
    let rest = run_matches ss (run_at here.0) in
    (rest.0, ap₂ (λ (a : Bool) (fs : List Bool). a ∷ fs) here.1 rest.1)

-- what right sizes say
pub right_sizes : (r k L n : ℕ) (words logs answers : List ℕ) → sizes_right r k L n words logs answers ≡ true → Sizes r k × (length logs ≡ r * L)
unfolding chassis_fits sizes_right
right_sizes r k L n words logs answers e = let f = simp tests at e in (sizes r k f.0.0.0, f.0.1)

-- what a list of steps leaves is a run of the theory
pub state_run : (r k L : ℕ) (steps : List Step) (logs : List ℕ) → Sizes r k → length logs ≡ r * L
    → let start = fresh_state r k L logs in
    TheoryRun r k (map ledger_step steps) (numbers_in (answers_of r k L steps start)) (replica_of r k L (state_after r k L steps start))
state_run r k L steps logs z fits =
    let ran = run_matches steps (run_at (fresh_matches r k L logs z fits)) in
    record { cards = ran.0.cards; steps_are = offers_steps r k L steps (fresh_state r k L logs); answers_are = ran.1 }

-- and so is a run whose sizes are right
module _ (r k L : ℕ) (steps : List Step) (words logs answers : List ℕ) (right : sizes_right r k L (length steps) words logs answers ≡ true) where
  pub answers_are : (run_on r k L steps words logs answers).answers ≡ answers_of r k L steps (fresh_state r k L logs)
  unfolding run_on
  answers_are = rw right

  pub words_are : (run_on r k L steps words logs answers).words ≡ (state_after r k L steps (fresh_state r k L logs)).words
  unfolding run_on
  words_are = rw right

  pub theory_run : TheoryRun r k (map ledger_step steps) (numbers_in (run_on r k L steps words logs answers).answers)
      (part (replica_length r k) (run_on r k L steps words logs answers).words)
  theory_run =
      let z = right_sizes r k L (length steps) words logs answers right in
      rw (answers_are, words_are) (state_run r k L steps logs z.0 z.1)

-- ---- no 2 and no 10

-- what waits is taken, so it is plausible
reached_plausible : {r k L : ℕ} (now : RunAt r k L) (i s : ℕ) → i < r → s < r → i ≢ s → N_in now i s < N_in now s s
    → let b = replica_of r k L now.state i in
    let m = format_2.received (waiting_part (suc (N_in now i s)) (log_of r k L now.state s)) in
    plausible (C_of b) i m.sender m.content ≡ true
unfolding delivered
reached_plausible {r} {k} {L} now i s hi hs apart waits =
    let b = replica_of r k L now.state i in
    let bytes = waiting_part (suc (N_in now i s)) (log_of r k L now.state s) in
    let taken : (take_on b bytes).answer.number ≡ 0 = ap (λ (x : Stepped). x.answer.number) (one_delivered now i s hi hs waits apart) in
    let passes = take_passes b bytes (((take_decided format_2 b bytes).exact 0).0 taken) in
    rw ((run_cards now).in_step.cards_show.heads i hi).own_is at passes.1.1.1.1.1.1.1.0

module _ (r k L : ℕ) (steps : List Step) (words logs answers : List ℕ) (right : sizes_right r k L (length steps) words logs answers ≡ true) where
  pub run_well_formed : (i q : ℕ) → i < r → q < k → row_well_formed (part (replica_length r k) (run_on r k L steps words logs answers).words i) q ≡ true
  run_well_formed i q hi hq = row_from _ q (reached_row (cards_at (theory_run r k L steps words logs answers right).cards) i q hi hq)

  pub run_plausible : (i s : ℕ) → i < r → s < r → i ≢ s
      → let after = run_on r k L steps words logs answers in
      let b = part (replica_length r k) after.words i in
      N_of r b s < N_of r (part (replica_length r k) after.words s) s
      → let m = format_2.received (waiting_part (suc (N_of r b s)) (part L after.logs s)) in
      plausible (C_of b) i m.sender m.content ≡ true
  unfolding run_on
  run_plausible i s hi hs apart =
      let z = right_sizes r k L (length steps) words logs answers right in
      rw right (reached_plausible (run_at (run_matches steps (run_at (fresh_matches r k L logs z.0 z.1))).0) i s hi hs apart)

pub ledger_theorem : (r k L : ℕ) (steps : List Step) (words logs answers : List ℕ) → sizes_right r k L (length steps) words logs answers ≡ true
    → (i q : ℕ) → i < r → q < k
    → read_on (part (replica_length r k) (run_on r k L steps words logs answers).words i) q
    ≡ ledger_reading r i (ledger_of r q steps (run_on r k L steps words logs answers).answers)
unfolding ledger_of
ledger_theorem r k L steps words logs answers right = reading_is (theory_run r k L steps words logs answers right)

pub ledger_theorem_over_records : (r k L : ℕ) (steps : List Step) (words logs answers : List ℕ)
    → let after = run_on r k L steps words logs answers in
    after.number ≡ 0 → (i q : ℕ) → i < r → q < k
    → read_on (part (replica_length r k) after.words i) q ≡ ledger_reading r i (ledger_of r q steps after.answers)
ledger_theorem_over_records r k L steps words logs answers accepted =
    ledger_theorem r k L steps words logs answers ((accepted_sizes r k L steps words logs answers).0.0 accepted)

pub ledger_theorem_over_bytes : (r k L : ℕ) (bytes words logs answers : List ℕ)
    → let after = run_bytes_on r k L bytes words logs answers in
    after.number ≡ 0 → (i q : ℕ) → i < r → q < k
    → read_on (part (replica_length r k) after.words i) q ≡ ledger_reading r i (ledger_of r q (steps_of bytes) after.answers)
ledger_theorem_over_bytes r k L bytes words logs answers accepted =
    let same = whole_steps r k L bytes words logs answers ((accepted_sizes_over_bytes r k L bytes words logs answers).0.0 accepted).0 in
    rw same (ledger_theorem_over_records r k L (steps_of bytes) words logs answers (rw same at accepted))

-- ---- cards that have received the same messages

pub same_messages_same_reads : (r k L : ℕ) (steps : List Step) (words logs answers : List ℕ) → sizes_right r k L (length steps) words logs answers ≡ true
    → let card = part (replica_length r k) (run_on r k L steps words logs answers).words in
    (i j : ℕ) → i < r → j < r → ((s : ℕ) → s < r → N_of r (card i) s ≡ N_of r (card j) s)
    → (q : ℕ) → q < k → read_on (card i) q ≡ read_on (card j) q
same_messages_same_reads r k L steps words logs answers right = same_reads (theory_run r k L steps words logs answers right)

-- ---- answers

module _ (r k L : ℕ) (before : List Step) (s : Step) (after : List Step) (words logs answers : List ℕ)
    (right : sizes_right r k L (length (before ++ s ∷ after)) words logs answers ≡ true) where
  pub step_answers : (any : ℕ)
      → answer_in (run_on r k L (before ++ s ∷ after) words logs answers).answers (length before)
      ≡ due_answer r k L any s (state_after r k L before (fresh_state r k L logs)) (λ q. ledger_of r q before (answers_of r k L before (fresh_state r k L logs)))
  unfolding run_on ledger_of
  step_answers any =
      let z = right_sizes r k L (length (before ++ s ∷ after)) words logs answers right in
      let ran = run_matches before (run_at (fresh_matches r k L logs z.0 z.1)) in
      rw right (answer_at r k L before s after (fresh_state r k L logs) ∙ step_answer (run_at ran.0) any s)

  pub run_answers : run_answer (answer_in (run_on r k L (before ++ s ∷ after) words logs answers).answers (length before)).number ≡ true
  run_answers = ap (λ (a : StepAnswer). run_answer a.number) (step_answers 0) ∙ due_is_answer r k L 0 s _ _

  pub step_values : let answer = answer_in (run_on r k L (before ++ s ∷ after) words logs answers).answers (length before) in
      let st = state_after r k L before (fresh_state r k L logs) in
      answer.value ≡ cond (was_accepted answer.number) (value_asked (action_of s) (λ i q. (read_on (replica_of r k L st i) q).value)) 0
  unfolding run_on
  step_values =
      let st = state_after r k L before (fresh_state r k L logs) in
      let read = value_asked (action_of s) (λ i q. (read_on (replica_of r k L st i) q).value) in
      rw right
      (subst (λ (a : StepAnswer). a.value ≡ cond (was_accepted a.number) read 0) (sym (answer_at r k L before s after (fresh_state r k L logs)))
      (step_value r k L st s))
