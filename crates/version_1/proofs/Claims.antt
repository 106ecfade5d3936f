-- CLAIMS. The messages of cards of version 1, taken as they are by version 1's rules or converted by the rules of today; and old and new cards in one chassis. Each has
-- its sentence, its statement, and the law that proves it. r cards, k counters, logs of L bytes, any list of steps.
use Rattle.std.specs.Prelude.{ℕ, ◌≤◌, ◌≡◌, List, Bool, true, false, length}
use Rattle.protocol.specs.Checks.{first_failing}
use Rattle.protocol.specs.RoundRobin.{Link}
use Rattle.wire.specs.Message.{version_1, version_2, increment_length, clear_length}
use Rattle.conversion.specs.Conversion.{converted, converted_into, to_version_2_on, to_version_1_on}
use Rattle.replica_model.specs.Calls.{sizes_in_range, holders}
use Rattle.chassis_model.specs.Driver.{cards_after, GenuineHistory}
use Rattle.version_1.specs.Run.{Step, count, clear, deliver, Chassis, fresh, making_checks, link_checks, version_of, step_on, after_steps, all_old, after_run, deliver_steps, by_old_rules, old_numbers, by_new_rules, new_numbers}
use Rattle.version_1.specs.History.{calls_of, cards_of}
use Rattle.version_1.proofs.Theorem as theorem
use Rattle.version_1.proofs.HistoryLaws as history

-- THE SAME REPLICAS. After any list of steps by version 1's rules, and deliveries behind it on any links in any order: the waiting messages taken by version 1's
-- rules, or those of the converted logs taken by the rules of today, leave every card with the same words,
pub same_replicas : (r k L : ℕ) → sizes_in_range r k ≡ true → (steps : List Step) (links : List Link)
    → let st = after_run r k L steps in
    (i : ℕ) → (by_old_rules r links st).words i ≡ (by_new_rules r links st).words i
same_replicas = theorem.same_replicas

-- and every delivery answers the same number: it is accepted by both or by neither.
pub same_numbers : (r k L : ℕ) → sizes_in_range r k ≡ true → (steps : List Step) (links : List Link)
    → let st = after_run r k L steps in old_numbers r links st ≡ new_numbers r links st
same_numbers = theorem.same_numbers

-- The former are deliver steps of the run, so what is said of steps holds of them.
pub old_deliveries_are_steps : (r L : ℕ) (links : List Link) (st : Chassis) → by_old_rules r links st ≡ after_steps all_old r L (deliver_steps links) st
old_deliveries_are_steps = theorem.old_deliveries_are_steps

-- OLD CARDS IN A NEW CHASSIS. Some cards, whichever, are of version 1 and the others of today; each card works by its own rules, and a message is converted where its
-- receiver is of the other version. After any list of steps a count and a clear are refused exactly with 7 for a card that is not there, 3, 4 where the card has made
-- MAX messages, and 14 where its log has no room for the message, in this order;
pub making_exact : (is_old : ℕ → Bool) (r k L : ℕ) → sizes_in_range r k ≡ true → (steps : List Step)
    → let st = after_steps is_old r L steps (fresh r k) in
    (i q : ℕ) → ((step_on is_old r L (count i q) st).number ≡ first_failing (making_checks r k L i q (increment_length (version_of is_old i)) st))
    × ((step_on is_old r L (clear i q) st).number ≡ first_failing (making_checks r k L i q (clear_length (holders (st.words i) q)) st))
making_exact = theorem.making_exact

-- and a delivery is accepted exactly when a message waits: it is refused with 7 for what is no link, 13 where nothing waits, and nothing else.
pub delivery_exact : (is_old : ℕ → Bool) (r k L : ℕ) → sizes_in_range r k ≡ true → (steps : List Step)
    → let st = after_steps is_old r L steps (fresh r k) in
    (i s : ℕ) → (step_on is_old r L (deliver i s) st).number ≡ first_failing (link_checks r i s st)
delivery_exact = theorem.delivery_exact

-- The log of a card of version 1 converts to version 2, and that of a card of today to version 1, into any output that has room.
pub logs_convert : (is_old : ℕ → Bool) (r k L : ℕ) → sizes_in_range r k ≡ true → (steps : List Step) (i : ℕ) (out : List ℕ)
    → let log = (after_steps is_old r L steps (fresh r k)).logs i in
    (is_old i ≡ true → length (converted version_1 version_2 log) ≤ length out → to_version_2_on log out ≡ converted_into version_1 version_2 log out)
    × (is_old i ≡ false → length (converted version_2 version_1 log) ≤ length out → to_version_1_on log out ≡ converted_into version_2 version_1 log out)
logs_convert = theorem.logs_convert

-- The accepted steps of any list, as calls of today on cards just opened, are a genuine history; they leave the chassis's words and, as written, its messages in
-- version 2. So what is claimed of the cards that a driver's history leaves holds of such a chassis, and of whatever calls follow.
pub is_history : (is_old : ℕ → Bool) (r k L : ℕ) → sizes_in_range r k ≡ true → (steps : List Step)
    → let calls = calls_of is_old r L steps (fresh r k) in
    GenuineHistory r k calls × (cards_after r k calls ≡ cards_of is_old (after_steps is_old r L steps (fresh r k)))
is_history = history.is_history
