-- CLAIMS. What a driver relies on that calls open, count, clear, read and clear, and take on the cards of a chassis, each card with words of its own, over a network that may
-- lose, repeat, reorder and damage messages. Each has its sentence, its statement, and the law that proves it.
--
-- r cards, k counters. `calls` is any list of calls, on any cards, with any counters, outputs and bytes. `GenuineHistory r k calls`: whatever bytes a card
-- accepts, the card that they name as sender has written them by then; of what is refused nothing is asked. `cards_after r k calls` has the words of each card
-- after the calls, and what each has written; `history_ledger r k calls q` is counter q's ledger, fed the calls' steps and which of them were answered with 0.
use Rattle.std.specs.Prelude.{ℕ, ◌+◌, ◌<◌, ◌≡◌, ◌↔◌, true, cond, List, [], ◌++◌, map, length, get_or}
use Rattle.protocol.specs.Limits.{repeated}
use Rattle.protocol.specs.RoundRobin.{Link, IsLink, times}
use Rattle.wire.specs.Message.{version_2, message_at, reads}
use Rattle.replica_model.specs.Layout.{N_of}
use Rattle.replica_model.specs.Calls.{sizes_in_range, open_on, read_on}
use Rattle.chassis_model.specs.Ledger.{was_accepted, ledger_reading}
use Rattle.chassis_model.specs.Answers.{value_asked}
use Rattle.chassis_model.specs.ReadAndClearOf.{call_action}
use Rattle.chassis_model.specs.Driver.{Call, take, Cards, opened, called, number_of, value_of, WrittenBySender, GenuineCall, NotForged, Genuine, after, numbers, resends, cards_after, GenuineHistory, accepted_steps, history_ledger, due_number, message_answer, received_answer, all_received}
use Rattle.chassis_model.proofs.DriverTheorem as theorem

-- A history begins with the words that open leaves.
pub opened_is : (b : List ℕ) (r k i : ℕ) → (open_on b r k i).number ≡ 0 → (open_on b r k i).words ≡ (opened r k).words i
opened_is = theorem.opened_is

-- THE DRIVER'S THEOREM. After every genuine history a read of any counter on any card is accepted and gives the value, the holding cards and their number of
-- that counter's ledger. Every shorter history is a history too.
pub driver_theorem : (r k : ℕ) → sizes_in_range r k ≡ true → (calls : List Call) → GenuineHistory r k calls
    → (i q : ℕ) → i < r → q < k → read_on ((cards_after r k calls).words i) q ≡ ledger_reading r i (history_ledger r k calls q)
driver_theorem = theorem.driver_theorem

-- A network that forges nothing is enough: a call whose bytes, if they read as a message, its sender has written, is genuine.
pub not_forged_genuine : (c : Call) (st : Cards) → NotForged c st → GenuineCall c st
not_forged_genuine = theorem.not_forged_genuine

-- EXACT ANSWERS. After every genuine history each call that is not forged answers the number that is due (`due_number`): a call that makes a message 3, 4 and 5 exactly for
-- their causes, take 6 for bytes that do not read, 7 for the card's own message handed back, 8 at or below N of the sender, 9 above N + 1, and 0 otherwise.
pub call_numbers : (r k : ℕ) → sizes_in_range r k ≡ true → (calls : List Call) → GenuineHistory r k calls
    → (c : Call) → NotForged c (cards_after r k calls) → number_of c (cards_after r k calls) ≡ due_number r k c (cards_after r k calls) (history_ledger r k calls)
call_numbers = theorem.call_numbers

-- THE VALUE ANSWERED. A call answers the value 0 unless it is an accepted read and clear; then it is exactly the value that a read of that counter on that card gives
-- before the call. On any cards, reached or not.
pub call_values : (c : Call) (st : Cards)
    → value_of c st ≡ cond (was_accepted (number_of c st)) (value_asked (call_action c) (λ i q. (read_on (st.words i) q).value)) 0
call_values = theorem.call_values

-- A message that its sender has written is answered 0, 7, 8 or 9, and never 1, 2, 3, 6 or 10.
pub message_numbers : (r k : ℕ) → sizes_in_range r k ≡ true → (calls : List Call) → GenuineHistory r k calls
    → (i : ℕ) → i < r → (bytes : List ℕ) → reads version_2 bytes ≡ true → WrittenBySender bytes (cards_after r k calls)
    → message_answer (number_of (take i bytes) (cards_after r k calls)) ≡ true
message_numbers = theorem.message_numbers

-- What a card has written reads, names the card as its sender, and is numbered from 1 in the order written.
pub written_in_order : (r k : ℕ) → sizes_in_range r k ≡ true → (calls : List Call) → GenuineHistory r k calls
    → (s : ℕ) → s < r → (n : ℕ) → n < length ((cards_after r k calls).written s)
    → let bytes = get_or ((cards_after r k calls).written s) n [] in (reads version_2 bytes ≡ true) × ((message_at version_2 bytes).sender ≡ s) × ((message_at version_2 bytes).sequence ≡ n + 1)
written_in_order = theorem.written_in_order

-- SENDING AGAIN IS SAFE. Bytes that a card has answered with 0 or 8 it answers with 8 ever after, whatever else is called: nobody need send them to it again.
pub received_once : (r k : ℕ) → sizes_in_range r k ≡ true → (calls : List Call) → GenuineHistory r k calls
    → (i : ℕ) → i < r → (bytes : List ℕ) → GenuineCall (take i bytes) (cards_after r k calls)
    → received_answer (number_of (take i bytes) (cards_after r k calls)) ≡ true
    → (more : List Call) → Genuine more (called (take i bytes) (cards_after r k calls))
    → number_of (take i bytes) (after more (called (take i bytes) (cards_after r k calls))) ≡ repeated
received_once = theorem.received_once

-- SENDING AGAIN IS ENOUGH. After every genuine history, whatever was lost: all that card s has written, handed to another card i in order, is answered 0 or 8
-- message by message, and then i has received all of it.
pub resend_all : (r k : ℕ) → sizes_in_range r k ≡ true → (calls : List Call) → GenuineHistory r k calls
    → (i s : ℕ) → i < r → s < r → (i ≡ s → ⊥)
    → let now = cards_after r k calls in
    let again = map (take i) (now.written s) in
    Genuine again now × (all_received (numbers again now) ≡ true) × (N_of r ((after again now).words i) s ≡ length (now.written s))
resend_all = theorem.resend_all

-- Cards that have received the same messages read alike: after every genuine history, two cards with the same N of every card, their own included, read the same
-- of every counter, the whole of it: number, value, holding cards and how many. In whatever order the messages came, and whatever else is under way.
pub same_messages_same_reads : (r k : ℕ) → sizes_in_range r k ≡ true → (calls : List Call) → GenuineHistory r k calls
    → let st = cards_after r k calls in (i j : ℕ) → i < r → j < r
    → ((s : ℕ) → s < r → N_of r (st.words i) s ≡ N_of r (st.words j) s)
    → (q : ℕ) → q < k → read_on (st.words i) q ≡ read_on (st.words j) q
same_messages_same_reads = theorem.same_messages_same_reads

-- So cards that have received all agree: two cards whose N of every card is the number of messages that it has written.
pub all_received_agree : (r k : ℕ) → sizes_in_range r k ≡ true → (calls : List Call) → GenuineHistory r k calls
    → let st = cards_after r k calls in (i j : ℕ) → i < r → j < r
    → ((s : ℕ) → s < r → N_of r (st.words i) s ≡ length (st.written s)) → ((s : ℕ) → s < r → N_of r (st.words j) s ≡ length (st.written s))
    → (q : ℕ) → q < k → read_on (st.words i) q ≡ read_on (st.words j) q
all_received_agree = theorem.all_received_agree

-- SENDING ALL AGAIN MAKES ALL AGREE. After every genuine history, whatever was lost: all that every card has written, handed in order to every other card, link
-- after link (`links` has each link of a chassis of r cards at least once, in any order, and nothing else). The history with these takes behind it is genuine,
-- and then all cards read the same of every counter.
pub resent_agree : (r k : ℕ) → sizes_in_range r k ≡ true → (calls : List Call) → GenuineHistory r k calls
    → (links : List Link) → ((i s : ℕ) → (0 < times i s links) ↔ IsLink r i s)
    → let whole = calls ++ resends links (cards_after r k calls).written in
    let st = cards_after r k whole in
    GenuineHistory r k whole × ((i j : ℕ) → i < r → j < r → (q : ℕ) → q < k → read_on (st.words i) q ≡ read_on (st.words j) q)
resent_agree = theorem.resent_agree

-- ONLY ACCEPTED STEPS COUNT. Two genuine histories whose accepted calls are the same steps (who counted or cleared what, who took from whom, in this order)
-- leave every card with the same words and the same messages written: refused calls, outputs and what the network did besides leave no trace.
pub same_steps : (r k : ℕ) → sizes_in_range r k ≡ true → (calls calls' : List Call) → GenuineHistory r k calls → GenuineHistory r k calls'
    → accepted_steps calls (opened r k) ≡ accepted_steps calls' (opened r k) → cards_after r k calls ≡ cards_after r k calls'
same_steps = theorem.same_steps
