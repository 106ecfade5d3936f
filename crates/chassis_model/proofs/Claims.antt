-- CLAIMS. What a user of a run relies on. Each has its sentence, its statement, and the law that proves it.
--
-- r cards, k counters, logs of L bytes, any list of steps, any words, log bytes and answers of the right sizes. `fresh_state r k L logs` is the state in which
-- the run begins, `state_after` the one that a list of steps leaves, `ledger_of r q steps answers` counter q's ledger, fed the steps and which were accepted.
use Rattle.std.specs.Prelude.{ℕ, suc, ◌/◌, ◌%◌, ◌<◌, ◌≡◌, ◌≢◌, ◌↔◌, true, cond, List, ◌∷◌, ◌++◌, length}
use Rattle.protocol.specs.Limits.{bad_sizes}
use Rattle.protocol.specs.Acceptance.{plausible}
use Rattle.wire.specs.NumberLaws.{Bytes}
use Rattle.replica_model.specs.Layout.{replica_length, C_of, N_of}
use Rattle.replica_model.specs.Format.{format_2}
use Rattle.replica_model.specs.Calls.{row_well_formed, read_on}
use Rattle.chassis_model.specs.ListParts.{part}
use Rattle.chassis_model.specs.Log.{waiting_part}
use Rattle.chassis_model.specs.Run.{Step, action_of, replica_of, state_after, answers_of, sizes_right, run_on, steps_bytes, AllFit, steps_of, run_bytes_on, step_length}
use Rattle.chassis_model.specs.Ledger.{was_accepted, ledger_of, ledger_reading}
use Rattle.chassis_model.specs.Answers.{fresh_state, value_asked, due_answer, answer_in, run_answer}
use Rattle.chassis_model.proofs.RunLaws as run_laws
use Rattle.chassis_model.proofs.StepBytesLaws as step_bytes_laws
use Rattle.chassis_model.proofs.Theorem as theorem

-- DEMAND 3. After any list of steps, a read of any counter on any card is accepted and gives the value, the holding cards and their number of that counter's
-- ledger, which was fed the list's steps and told which of them the run answered with 0. Every shorter list is a list too.
pub ledger_theorem : (r k L : ℕ) (steps : List Step) (words logs answers : List ℕ) → sizes_right r k L (length steps) words logs answers ≡ true
    → (i q : ℕ) → i < r → q < k
    → let after = run_on r k L steps words logs answers in
    read_on (part (replica_length r k) after.words i) q ≡ ledger_reading r i (ledger_of r q steps after.answers)
ledger_theorem = theorem.ledger_theorem

-- The same of a run over records that answered 0, as the call `yelansub_run_records` gives it.
pub ledger_theorem_over_records : (r k L : ℕ) (steps : List Step) (words logs answers : List ℕ)
    → let after = run_on r k L steps words logs answers in
    after.number ≡ 0 → (i q : ℕ) → i < r → q < k
    → read_on (part (replica_length r k) after.words i) q ≡ ledger_reading r i (ledger_of r q steps after.answers)
ledger_theorem_over_records = theorem.ledger_theorem_over_records

-- And of a run over bytes that answered 0, as the call `yelansub_run` gives it.
pub ledger_theorem_over_bytes : (r k L : ℕ) (bytes words logs answers : List ℕ)
    → let after = run_bytes_on r k L bytes words logs answers in
    after.number ≡ 0 → (i q : ℕ) → i < r → q < k
    → read_on (part (replica_length r k) after.words i) q ≡ ledger_reading r i (ledger_of r q (steps_of bytes) after.answers)
ledger_theorem_over_bytes = theorem.ledger_theorem_over_bytes

-- Cards that have received the same messages read alike: after any list of steps, two cards with the same N of every card, their own included, read the same of
-- every counter, the whole of it: number, value, holding cards and how many. In whatever order the messages came, and whatever else is under way.
pub same_messages_same_reads : (r k L : ℕ) (steps : List Step) (words logs answers : List ℕ) → sizes_right r k L (length steps) words logs answers ≡ true
    → let card = part (replica_length r k) (run_on r k L steps words logs answers).words in
    (i j : ℕ) → i < r → j < r → ((s : ℕ) → s < r → N_of r (card i) s ≡ N_of r (card j) s)
    → (q : ℕ) → q < k → read_on (card i) q ≡ read_on (card j) q
same_messages_same_reads = theorem.same_messages_same_reads

-- NO 2 AND NO 10. In the words that a run leaves every row of every card is well-formed, and the message that waits for a card is plausible to it.
pub run_well_formed : (r k L : ℕ) (steps : List Step) (words logs answers : List ℕ) → sizes_right r k L (length steps) words logs answers ≡ true
    → (i q : ℕ) → i < r → q < k → row_well_formed (part (replica_length r k) (run_on r k L steps words logs answers).words i) q ≡ true
run_well_formed = theorem.run_well_formed

pub run_plausible : (r k L : ℕ) (steps : List Step) (words logs answers : List ℕ) → sizes_right r k L (length steps) words logs answers ≡ true
    → (i s : ℕ) → i < r → s < r → i ≢ s
    → let after = run_on r k L steps words logs answers in
    let b = part (replica_length r k) after.words i in
    N_of r b s < N_of r (part (replica_length r k) after.words s) s
    → let m = format_2.received (waiting_part (suc (N_of r b s)) (part L after.logs s)) in
    plausible (C_of b) i m.sender m.content ≡ true
run_plausible = theorem.run_plausible

-- ACCEPTED SIZES. A run over records answers 0 exactly when its sizes are right. Otherwise it answers 11, and words, logs and answers are as they were.
pub accepted_sizes : (r k L : ℕ) (steps : List Step) (words logs answers : List ℕ)
    → let after = run_on r k L steps words logs answers in
    ((after.number ≡ 0) ↔ (sizes_right r k L (length steps) words logs answers ≡ true))
    × ((after.number ≡ 0 → ⊥) → after ≡ record { number = bad_sizes; words = words; logs = logs; answers = answers })
accepted_sizes = run_laws.accepted_sizes

-- A run over bytes answers 0 exactly when, besides, the bytes are a multiple of 16. Otherwise it answers 11, and words, logs and answers are as they were.
pub accepted_sizes_over_bytes : (r k L : ℕ) (bytes words logs answers : List ℕ)
    → let after = run_bytes_on r k L bytes words logs answers in
    ((after.number ≡ 0) ↔ ((length bytes % step_length ≡ 0) × (sizes_right r k L (length bytes / step_length) words logs answers ≡ true)))
    × ((after.number ≡ 0 → ⊥) → after ≡ record { number = bad_sizes; words = words; logs = logs; answers = answers })
accepted_sizes_over_bytes = run_laws.accepted_sizes_over_bytes

-- EXACT ANSWERS. The answer of the step behind any first steps, both words of it, is the one that is due after them (`due_answer`): 12, 7, 3, 16, 4, 14 and 13 exactly for
-- their causes, and 0 otherwise; and the ledger's value for an accepted read and clear, 0 for everything else. So a deliver step between two cards is accepted exactly when the ledger's link, of whichever counter's ledger, has something to hand over.
pub step_answers : (r k L : ℕ) (before : List Step) (s : Step) (after : List Step) (words logs answers : List ℕ)
    → sizes_right r k L (length (before ++ s ∷ after)) words logs answers ≡ true
    → (any : ℕ)
    → answer_in (run_on r k L (before ++ s ∷ after) words logs answers).answers (length before)
    ≡ due_answer r k L any s (state_after r k L before (fresh_state r k L logs)) (λ q. ledger_of r q before (answers_of r k L before (fresh_state r k L logs)))
step_answers = theorem.step_answers

-- THE VALUE ANSWERED. The second answer word of a step is 0 unless it is an accepted read and clear; then it is exactly the value that a read of that counter on that
-- card gives before the step.
pub step_values : (r k L : ℕ) (before : List Step) (s : Step) (after : List Step) (words logs answers : List ℕ)
    → sizes_right r k L (length (before ++ s ∷ after)) words logs answers ≡ true
    → let answer = answer_in (run_on r k L (before ++ s ∷ after) words logs answers).answers (length before) in
    let st = state_after r k L before (fresh_state r k L logs) in
    answer.value ≡ cond (was_accepted answer.number) (value_asked (action_of s) (λ i q. (read_on (replica_of r k L st i) q).value)) 0
step_values = theorem.step_values

-- The number of a step is never anything but 0, 3, 4, 7, 12, 13, 14 or 16.
pub run_answers : (r k L : ℕ) (before : List Step) (s : Step) (after : List Step) (words logs answers : List ℕ)
    → sizes_right r k L (length (before ++ s ∷ after)) words logs answers ≡ true
    → run_answer (answer_in (run_on r k L (before ++ s ∷ after) words logs answers).answers (length before)).number ≡ true
run_answers = theorem.run_answers

-- BOTH FORMS OF STEPS. A list of steps lent as bytes, four unsigned ints each, and the same list lent as records give the same run: its number, words, logs and
-- answers.
pub same_run : (r k L : ℕ) (steps : List Step) (words logs answers : List ℕ) → AllFit steps
    → run_bytes_on r k L (steps_bytes steps) words logs answers ≡ run_on r k L steps words logs answers
same_run = step_bytes_laws.same_run

-- So two forms of one list: any bytes whose number is a multiple of 16 are the bytes of a list of steps, the one that a run over them runs.
pub steps_of_bytes : (bytes : List ℕ) → Bytes bytes → length bytes % step_length ≡ 0 → AllFit (steps_of bytes) × (steps_bytes (steps_of bytes) ≡ bytes)
steps_of_bytes = step_bytes_laws.steps_of_bytes
