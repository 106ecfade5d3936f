-- CLAIMS. The total of a counter that one card clears, always by read and clear: of a run, over the words and the answers that it leaves, and of a driver's history
-- over any network that forges nothing. `increments_received h q steps accepted` is told from the list and which of its steps were accepted, and from nothing else:
-- card h's own counts of q, and the increments of q in the messages that were handed over to it.
use Rattle.std.specs.Prelude.{ℕ, ◌+◌, ◌<◌, ◌≡◌, true, List, map, length}
use Rattle.protocol.specs.OneClears.{OneClears}
use Rattle.protocol.specs.Increments.{increments_received}
use Rattle.replica_model.specs.Layout.{replica_length}
use Rattle.replica_model.specs.Calls.{sizes_in_range, read_on}
use Rattle.chassis_model.specs.ListParts.{part}
use Rattle.chassis_model.specs.Run.{Step, action_of, numbers_in, values_in, run_on, steps_of, run_bytes_on}
use Rattle.chassis_model.specs.Ledger.{ledger_step, accepted_of, ledger_of}
use Rattle.chassis_model.specs.Driver.{Call, opened, numbers, values, cards_after, GenuineHistory, call_step, history_ledger}
use Rattle.chassis_model.proofs.RunLaws.{accepted_sizes, whole_steps, accepted_sizes_over_bytes}
use Rattle.chassis_model.specs.ReadAndClearOf.{call_action, OnlyReadAndClears, collected, reads_before}
use Rattle.chassis_model.proofs.ReadAndClearLaws as laws

-- TOTAL. Of a run that answered 0, whatever its list: where each accepted step that clears counter q is a read and clear by card h, the values that these answered
-- and the value that a read of q on card h gives at the end add up to the number of increments of q that h has received, its own included. Declined steps, and
-- clears of other counters, do not matter.
pub total : (r k L : ℕ) (steps : List Step) (words logs answers : List ℕ)
    → let after = run_on r k L steps words logs answers in
    let answered = numbers_in after.answers in
    after.number ≡ 0 → (h q : ℕ) → h < r → q < k → OnlyReadAndClears h q (map action_of steps) answered
    → collected h q (map action_of steps) answered (values_in after.answers) + (read_on (part (replica_length r k) after.words h) q).value
    ≡ increments_received h q (map ledger_step steps) (accepted_of answered)
total r k L steps words logs answers accepted = laws.run_total r k L steps words logs answers ((accepted_sizes r k L steps words logs answers).0.0 accepted)

-- After any list of steps, a card has received as many increments of q as there are names in its received set in the ledger of q.
pub increments_are_names : (r k L : ℕ) (steps : List Step) (words logs answers : List ℕ)
    → let after = run_on r k L steps words logs answers in
    after.number ≡ 0 → (h q : ℕ)
    → increments_received h q (map ledger_step steps) (accepted_of (numbers_in after.answers)) ≡ length ((ledger_of r q steps after.answers).received h)
increments_are_names r k L steps words logs answers accepted =
    laws.run_increments r k L steps words logs answers ((accepted_sizes r k L steps words logs answers).0.0 accepted)

-- The same two of a run over bytes.
pub total_over_bytes : (r k L : ℕ) (bytes words logs answers : List ℕ)
    → let after = run_bytes_on r k L bytes words logs answers in
    let steps = steps_of bytes in
    let answered = numbers_in after.answers in
    after.number ≡ 0 → (h q : ℕ)
    → (h < r → q < k → OnlyReadAndClears h q (map action_of steps) answered
    → collected h q (map action_of steps) answered (values_in after.answers) + (read_on (part (replica_length r k) after.words h) q).value
    ≡ increments_received h q (map ledger_step steps) (accepted_of answered))
    × (increments_received h q (map ledger_step steps) (accepted_of answered) ≡ length ((ledger_of r q steps after.answers).received h))
total_over_bytes r k L bytes words logs answers accepted =
    let same = whole_steps r k L bytes words logs answers ((accepted_sizes_over_bytes r k L bytes words logs answers).0.0 accepted).0 in
    let ran = rw same at accepted in
    rw same (λ h q. (total r k L (steps_of bytes) words logs answers ran h q, increments_are_names r k L (steps_of bytes) words logs answers ran h q))

-- TOTAL OF CALLS. The same two of a driver's genuine history: the values that card h's accepted `read_and_clear` of q have answered, and what a read of q there
-- gives now, add up to the number of increments of q that h has received, where no other accepted call has cleared q. The planner's table relies on this.
pub total_of_calls : (r k : ℕ) → sizes_in_range r k ≡ true → (calls : List Call) → GenuineHistory r k calls → (h q : ℕ)
    → let answered = numbers calls (opened r k) in
    (h < r → q < k → OnlyReadAndClears h q (map call_action calls) answered
    → collected h q (map call_action calls) answered (values calls (opened r k)) + (read_on ((cards_after r k calls).words h) q).value
    ≡ increments_received h q (map call_step calls) (accepted_of answered))
    × (increments_received h q (map call_step calls) (accepted_of answered) ≡ length ((history_ledger r k calls q).received h))
total_of_calls r k right calls genuine h q = (laws.history_total r k right calls genuine h q, laws.history_increments r k right calls genuine h q)

-- TOTAL OF READS. The same sum of a driver that reads: where every accepted call that clears q is by card h, be it clear or read and clear, what a read of q on h gives
-- right before each of them, and what it gives now, add up to that number too.
pub total_of_reads : (r k : ℕ) → sizes_in_range r k ≡ true → (calls : List Call) → GenuineHistory r k calls → (h q : ℕ) → h < r → q < k
    → let accepted = accepted_of (numbers calls (opened r k)) in
    OneClears h q (map call_step calls) accepted
    → reads_before h q calls (opened r k) + (read_on ((cards_after r k calls).words h) q).value ≡ increments_received h q (map call_step calls) accepted
total_of_reads = laws.reads_total
