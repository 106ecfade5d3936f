-- CLAIMS. Counting by an amount is counting by one, again and again: over lists of steps whose counts are by any amounts. Each claim has its sentence, its
-- statement, and the law that proves it. r is the number of cards, os any list of steps, `after_run r os` the chassis after it, from a fresh one (`Runs`).
use Rattle.std.specs.Prelude.{ℕ, ◌≡◌, true, List, get_or}
use Rattle.std.proofs.Common.{sym, ap, ◌∙◌}
use Rattle.protocol.specs.Ledger.{count, deliver, ledger_value}
use Rattle.protocol.specs.Chassis.{Message, no_message, count_message, done, enabled, Offer, read_value, counter_of}
use Rattle.protocol.specs.Runs.{after_run, ledger_after}
use Rattle.protocol.proofs.Theorem as theorem
use Rattle.protocol.specs.Algorithm1.{value, state_of}
use Rattle.protocol.proofs.Algorithm1Laws.{value_agrees}
use Rattle.protocol.specs.InARow.{effectors, inc_generators, Instances, instance, algorithm_1_after, instances_of, updates_of}
use Rattle.protocol.proofs.InARowRuns as runs
use Rattle.protocol.specs.Singly.{in_single_steps}
use Rattle.protocol.proofs.SinglyLaws.{single_C, single_entry}

-- ---- "Algorithm 1 is compared as w increments in a row with nothing between them, in every run"

-- After any list of steps, every card's C and every card's entries of every counter are those of Algorithm 1 fed with the same steps: each accepted
-- count by w run as w increments in a row (generator, effector, generator, effector, ..), and each delivery of it as the effectors of these w
-- updates in a row.
pub algorithm_1_in_every_run : (r i : ℕ) (os : List Offer) → (algorithm_1_after r os).replica i ≡ instances_of ((after_run r os).replica i)
algorithm_1_in_every_run r i os = (runs.after_same r os).replicas i

-- So every read is Algorithm 1's value (lines 9-10), and that is the ledger's.
pub algorithm_1_reads : (r q i : ℕ) (os : List Offer)
    → (value r (instance q ((algorithm_1_after r os).replica i)) ≡ read_value r q ((after_run r os).replica i))
    × (value r (instance q ((algorithm_1_after r os).replica i)) ≡ ledger_value i (ledger_after r q os))
algorithm_1_reads r q i os =
    let a = ap (λ (b : Instances). value r (instance q b)) (algorithm_1_in_every_run r i os) ∙ value_agrees r q ((after_run r os).replica i) in
    (a, a ∙ (theorem.ledger_theorem r q i os).value)

-- Step by step. An accepted count by w leaves counter q's instance as w increments in a row leave it, and its message stands for the w updates
-- that the w generators returned.
pub count_in_a_row : (r i q w : ℕ) (os : List Offer) → enabled r (count i q w) (after_run r os) ≡ true
    → (state_of q ((done r (count i q w) (after_run r os)).replica i)
    ≡ effectors (inc_generators i w (state_of q ((after_run r os).replica i))) (state_of q ((after_run r os).replica i)))
    × (updates_of i (count_message i q w ((after_run r os).replica i)) ≡ inc_generators i w (state_of q ((after_run r os).replica i)))
count_in_a_row r i q w os e =
    let st = after_run r os in
    let k = theorem.run_invariant r q os in
    let g = runs.count_generators r q st (ledger_after r q os) k i w in
    (runs.count_leaves r q st (ledger_after r q os) k i w e, sym g)

-- An accepted delivery leaves the instance of its message's counter as the effectors of the message's updates leave it, in a row.
pub deliver_in_a_row : (r i s : ℕ) (os : List Offer) → enabled r (deliver i s) (after_run r os) ≡ true
    → (m : Message) → get_or ((after_run r os).log s) (((after_run r os).replica i).N s) no_message ≡ m
    → state_of (counter_of m) ((done r (deliver i s) (after_run r os)).replica i)
    ≡ effectors (updates_of s m) (state_of (counter_of m) ((after_run r os).replica i))
deliver_in_a_row = runs.deliver_leaves

-- The same list in single steps: w counts by 1 in a row for each accepted count by w, w deliveries in a row for each accepted delivery of its message.
-- It leaves every card with the same C and the same entries, so every read is the same. (N differs: it counts messages.)
pub single_steps : (r i : ℕ) (os : List Offer)
    → ((j : ℕ) → ((after_run r (in_single_steps r os)).replica i).C j ≡ ((after_run r os).replica i).C j)
    × ((q j : ℕ) → ((after_run r (in_single_steps r os)).replica i).entry q j ≡ ((after_run r os).replica i).entry q j)
single_steps r i os = (λ j. single_C r i j os, λ q j. single_entry r i q j os)
