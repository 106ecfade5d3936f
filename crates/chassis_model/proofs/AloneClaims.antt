-- CLAIMS. Isolation of a counter, over words and bytes: of a run, and of a driver's history of calls. q's own steps of a list (`own_steps`) are its accepted
-- steps that make a message on q and its accepted deliveries that hand over a message of q, in order; its own calls (`own_calls`) are the like.
use Rattle.std.specs.Prelude.{ℕ, ◌*◌, ◌<◌, ◌≡◌, true, false, List, map, length}
use Rattle.std.proofs.Common.{sym, ap, ◌∙◌}
use Rattle.replica_model.specs.Layout.{replica_length}
use Rattle.replica_model.specs.Calls.{sizes_in_range, read_on}
use Rattle.chassis_model.specs.ListParts.{part}
use Rattle.chassis_model.specs.Run.{Step, action_of, State, replica_of, step_on, state_after, numbers_in, values_in, sizes_right, run_on}
use Rattle.chassis_model.specs.Ledger.{ledger_step}
use Rattle.chassis_model.specs.Answers.{fresh_state}
use Rattle.chassis_model.specs.Driver.{Call, opened, called, numbers, values, cards_after, GenuineHistory, call_step}
use Rattle.chassis_model.specs.Alone.{of_counter, own_steps, own_values, call_counter, own_calls, own_call_values, replayed}
use Rattle.chassis_model.proofs.TheoryReads.{same_own_reads}
use Rattle.chassis_model.proofs.Theorem.{theory_run}
use Rattle.chassis_model.proofs.DriverTheorem.{theory_history}
use Rattle.chassis_model.proofs.DriverAlone.{own_calls_told, calls_alone}
use Rattle.chassis_model.proofs.AloneLaws.{own_steps_told, all_accepted_alone, same_values_alone, same_reads_alone}
use Rattle.chassis_model.proofs.AloneOthers.{declined_leaves, others_leave_after, other_call_leaves}

-- NO OTHER COUNTER MOVES. After any list of steps, a step of any kind that is not of counter q, whatever it answers, leaves every card's read of q as it was.
pub other_steps_leave : (r k L q : ℕ) (before : List Step) (s : Step) (logs : List ℕ) → sizes_in_range r k ≡ true → length logs ≡ r * L
    → let st = state_after r k L before (fresh_state r k L logs) in
    of_counter r k L q (action_of s) st ≡ false
    → (i : ℕ) → i < r → q < k → read_on (replica_of r k L (step_on r k L s st).state i) q ≡ read_on (replica_of r k L st i) q
other_steps_leave = others_leave_after

-- The same of a driver's calls: after any genuine history, a call that is not of counter q leaves every card's read of q, a forged or damaged message's take too.
pub other_calls_leave : (r k : ℕ) → sizes_in_range r k ≡ true → (calls : List Call) → GenuineHistory r k calls
    → (c : Call) (i q : ℕ) → (call_counter c ≡ q → ⊥) → i < r → q < k
    → let st = cards_after r k calls in read_on ((called c st).words i) q ≡ read_on (st.words i) q
other_calls_leave r k right calls g c i q other hi hq = other_call_leaves _ (theory_history r k right calls g).cards c i q other hi hq

-- A step that is declined leaves all words and all logs as they were, in any state.
pub declined_steps_leave : (r k L : ℕ) (s : Step) (st : State) → ((step_on r k L s st).answer.number ≡ 0 → ⊥) → (step_on r k L s st).state ≡ st
declined_steps_leave r k L s st d = declined_leaves r k L st s d

-- WHOLE ISOLATION. After any list of steps, run q's own steps alone, with logs of the same length: every one of them is accepted and answers the value that it answered
-- in the whole list, and every card's read of q is the one after the whole list. So other counters might as well not exist.
pub whole_isolation : (r k L q : ℕ) (steps : List Step) (words words' logs logs' answers answers' : List ℕ)
    → let after = run_on r k L steps words logs answers in
    let own = own_steps r k L q steps logs in
    let after' = run_on r k L own words' logs' answers' in
    sizes_right r k L (length steps) words logs answers ≡ true → sizes_right r k L (length own) words' logs' answers' ≡ true
    → (numbers_in after'.answers ≡ map (λ s. 0) own) × (values_in after'.answers ≡ own_values r k L q steps logs)
    × ((i : ℕ) → i < r → q < k → read_on (part (replica_length r k) after'.words i) q ≡ read_on (part (replica_length r k) after.words i) q)
whole_isolation r k L q steps words words' logs logs' answers answers' right right' = (
  all_accepted_alone r k L q steps words words' logs logs' answers answers' right right',
  same_values_alone r k L q steps words words' logs logs' answers answers' right right',
  same_reads_alone r k L q steps words words' logs logs' answers answers' right right',
)

-- The same of a driver's genuine history: q's own calls alone, each take being of the message whose turn it is then, are a genuine history of the same steps. All of
-- them are accepted, with the outputs that they had, and answer the values that they answered; and every card's read of q is the one after the whole history.
pub whole_isolation_of_calls : (r k q : ℕ) → sizes_in_range r k ≡ true → (calls : List Call) → GenuineHistory r k calls
    → let own = own_calls r k q calls in
    let again = replayed r own (opened r k) in
    GenuineHistory r k again × (numbers again (opened r k) ≡ map (λ c. 0) own) × (values again (opened r k) ≡ own_call_values r k q calls) × (map call_step again ≡ map call_step own)
    × ((i : ℕ) → i < r → q < k → read_on ((cards_after r k again).words i) q ≡ read_on ((cards_after r k calls).words i) q)
whole_isolation_of_calls = calls_alone

-- So two lists with the same own steps of q, whatever else is in them and whatever was answered there, leave every card with the same read of q. (The words, the
-- logs and their length may differ, and so may the number of counters.)
pub same_own_steps : (r k k' L L' q : ℕ) (steps steps' : List Step) (words words' logs logs' answers answers' : List ℕ)
    → let after = run_on r k L steps words logs answers in
    let after' = run_on r k' L' steps' words' logs' answers' in
    sizes_right r k L (length steps) words logs answers ≡ true → sizes_right r k' L' (length steps') words' logs' answers' ≡ true
    → own_steps r k L q steps logs ≡ own_steps r k' L' q steps' logs'
    → (i : ℕ) → i < r → q < k → q < k' → read_on (part (replica_length r k) after.words i) q ≡ read_on (part (replica_length r k') after'.words i) q
same_own_steps r k k' L L' q steps steps' words words' logs logs' answers answers' right right' e =
    same_own_reads q ledger_step steps ledger_step steps' (theory_run r k L steps words logs answers right)
    (theory_run r k' L' steps' words' logs' answers' right')
    (ap (map ledger_step) (sym (own_steps_told r k L q steps words logs answers right) ∙ e ∙ own_steps_told r k' L' q steps' words' logs' answers' right'))

-- The same of two genuine histories of a driver's calls, if their own calls of q are the same steps: by the same cards, and deliveries on the same links.
pub same_own_calls : (r k k' q : ℕ) → sizes_in_range r k ≡ true → sizes_in_range r k' ≡ true
    → (calls calls' : List Call) → GenuineHistory r k calls → GenuineHistory r k' calls'
    → map call_step (own_calls r k q calls) ≡ map call_step (own_calls r k' q calls')
    → (i : ℕ) → i < r → q < k → q < k' → read_on ((cards_after r k calls).words i) q ≡ read_on ((cards_after r k' calls').words i) q
same_own_calls r k k' q right right' calls calls' g g' e =
    same_own_reads q call_step calls call_step calls' (theory_history r k right calls g) (theory_history r k' right' calls' g')
    (ap (map call_step) (sym (own_calls_told r k q right calls g)) ∙ e ∙ ap (map call_step) (own_calls_told r k' q right' calls' g'))
