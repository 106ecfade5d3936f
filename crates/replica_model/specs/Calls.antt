-- DEFINITIONS. What each call of a card answers and leaves (SPECIFICATION 3 to 5). Each call is a list of
-- checks, in the specification's order, and a result: the first check that fails gives the number (`Checks` of protocol).
use Rattle.std.specs.Prelude.{ℕ, ◌+◌, ◌^◌, List, [], ◌∷◌, ◌++◌, Bool, true, not, cond, ◌&&◌, length, leb, ltb, eqb}
use Rattle.protocol.specs.Limits.{MAX, most_cards, most_counters, most_amount, bad_replica, bad_row, bad_counter, exhausted, short_output, unreadable, bad_card, repeated, early, implausible, bad_amount}
use Rattle.protocol.specs.Checks.{Check, or_else, checked}
use Rattle.protocol.specs.Functions.{agrees, count_below}
use Rattle.protocol.specs.Acceptance.{tables_well_formed, cards_known, plausible}
use Rattle.protocol.specs.Entry.{present, has_entry}
use Rattle.protocol.specs.Chassis.{Replica, Message, count_message, clear_message, read_value, read_holders, counter_of}
use Rattle.protocol.specs.Store.{shown, taken_words}
use Rattle.wire.specs.Message.{from_one_to, over}
use Rattle.replica_model.specs.Layout.{cards, counters, own_card, replica_length, active_word, active_of, C_of, N_of, entry_of, layout, fresh_words}
use Rattle.replica_model.specs.Format.{Received, Format, format_2}
pub use Rattle.replica_model.specs.declared.Reading.{Reading}
pub use Rattle.replica_model.specs.declared.Active.{Active}
pub use Rattle.replica_model.specs.declared.Sent.{Sent}
pub use Rattle.replica_model.specs.declared.Cleared.{Cleared}
pub use Rattle.replica_model.specs.declared.Taken.{Taken}

-- ---- what the checks ask

-- "r cards, 1 to 12; k counters, 1 to 64"
unfoldable pub sizes_in_range : ℕ → ℕ → Bool
sizes_in_range r k = leb 1 r && leb r most_cards && leb 1 k && leb k most_counters

-- 1: "Replica length, r, k or own card wrong": of a replica of r cards and k counters of card `own`, in so many words
unfoldable pub replica_fits : ℕ → ℕ → ℕ → ℕ → Bool
replica_fits r k own words = sizes_in_range r k && ltb own r && eqb words (replica_length r k)

-- "or a one at bit k or above": of the words themselves, which open does not look at
unfoldable pub right : List ℕ → Bool
right b = replica_fits (cards b) (counters b) (own_card b) (length b) && ltb (active_word b) (2 ^ counters b)

-- whether the replica in place i of a chassis of r cards and k counters is its card's; not so where "its own sizes other than r and k, or its own card not its place, or
-- a one at bit k or above"
abbrev pub in_place : ℕ → ℕ → ℕ → List ℕ → Bool
in_place r k i b = eqb (cards b) r && eqb (counters b) k && eqb (own_card b) i && ltb (active_word b) (2 ^ k)

-- 2: "Row not well-formed", of row q: its tables, and "its bit agrees"
unfoldable pub row_well_formed : List ℕ → ℕ → Bool
row_well_formed b q =
    tables_well_formed (cards b) (own_card b) (C_of b) (N_of (cards b) b) (entry_of (cards b) b q)
    && agrees (active_of b q) (has_entry (cards b) (entry_of (cards b) b q))

-- the state of Algorithm 1 that the words show
abbrev pub state : List ℕ → Replica
state b = shown (layout (cards b) (counters b)) b

-- the words when card s's message m has been taken, in the row of its counter
unfoldable pub words_after : ℕ → Message → List ℕ → List ℕ
words_after s m b = taken_words (layout (cards b) (counters b)) (counter_of m) s m b

-- ---- open: "open writes it"; open refuses with 1 alone

pub record OpenOutcome : Type 0 where
  pub number : ℕ
  pub words : List ℕ

abbrev pub open_checks : List ℕ → ℕ → ℕ → ℕ → List Check
open_checks b r k own = or_else (replica_fits r k own (length b)) bad_replica ∷ []

unfoldable pub open_on : List ℕ → ℕ → ℕ → ℕ → OpenOutcome
open_on b r k own = checked (λ n. record { number = n; words = b }) (open_checks b r k own) (record { number = 0; words = fresh_words r k own })

-- ---- read: "1, 3, 2"

abbrev pub read_checks : List ℕ → ℕ → List Check
read_checks b q = or_else (right b) bad_replica ∷ or_else (ltb q (counters b)) bad_counter ∷ or_else (row_well_formed b q) bad_row ∷ []

abbrev pub no_reading : ℕ → Reading
no_reading number = record { number = number; value = 0; holders = 0; holder_count = 0 }

-- how many entries of the row are present
abbrev pub holders : List ℕ → ℕ → ℕ
holders b q = count_below (cards b) (λ j. present (entry_of (cards b) b q j))

-- "the value (sum of p - n), the holder set and how many holders. Bit j of the holder set is one if M[j] is present"
unfoldable pub reading : List ℕ → ℕ → Reading
reading b q = record {
  number = 0;
  value = read_value (cards b) q (state b);
  holders = read_holders (cards b) q (state b);
  holder_count = holders b q;
}

-- "A counter is quiet on a card when a read of it is accepted and gives no holders."
abbrev pub is_quiet : Reading → Bool
is_quiet a = eqb a.number 0 && eqb a.holders 0

unfoldable pub read_on : List ℕ → ℕ → Reading
read_on b q = checked no_reading (read_checks b q) (reading b q)

-- ---- the active counters: "1" alone

abbrev pub active_checks : List ℕ → List Check
active_checks b = or_else (right b) bad_replica ∷ []

abbrev pub no_active : ℕ → Active
no_active number = record { number = number; counters = 0 }

-- "answers the set of active counters from that word alone"
unfoldable pub active_on : List ℕ → Active
active_on b = checked no_active (active_checks b) (record { number = 0; counters = active_word b })

-- ---- count: "1, 3, 16, 2, 4, 5"; clear: "1, 3, 2, 4, 5"

-- what the call answers, and what it leaves in the replica and in the output
pub record SendOutcome : Type 0 where
  pub answer : Sent
  pub words : List ℕ
  pub out : List ℕ

-- "an amount, 1 to 65,535"
abbrev pub is_amount : ℕ → Bool
is_amount w = from_one_to most_amount w

-- of a card that has made N messages and counted C, and counts w more: "4"
abbrev pub left_checks : ℕ → ℕ → ℕ → List Check
left_checks N C w = or_else (not (eqb N MAX) && leb (C + w) MAX) exhausted ∷ []

-- before a message that counts w is made: "1, 3, 16, 2, 4", where `asked` says that the amount is in range. A clear counts 0, and its amount is not asked for.
abbrev pub making_checks : List ℕ → ℕ → Bool → ℕ → List Check
making_checks b q asked w =
    or_else (right b) bad_replica ∷ or_else (ltb q (counters b)) bad_counter ∷ or_else asked bad_amount ∷ or_else (row_well_formed b q) bad_row
    ∷ left_checks (N_of (cards b) b (own_card b)) (C_of b (own_card b)) w

-- and 5, for a message of `size` bytes
abbrev pub send_checks : List ℕ → ℕ → Bool → ℕ → List ℕ → ℕ → List Check
send_checks b q asked w out size = making_checks b q asked w ++ (or_else (leb size (length out)) short_output ∷ [])

abbrev pub not_sent : ℕ → List ℕ → List ℕ → SendOutcome
not_sent number b out = record { answer = record { number = number; sequence = 0; length = 0 }; words = b; out = out }

-- the own card's next message, which says m
abbrev pub own_message : List ℕ → Message → Received
own_message b m = record { sender = own_card b; sequence = N_of (cards b) b (own_card b) + 1; content = m }

-- what an accepted send of m leaves: it is written to the front of the output and applied to the own replica
abbrev pub sent_with : Format → List ℕ → List ℕ → Message → SendOutcome
sent_with F b out m = record {
  answer = record { number = 0; sequence = N_of (cards b) b (own_card b) + 1; length = F.size m };
  words = words_after (own_card b) m b;
  out = over (F.written (own_message b m)) out;
}

unfoldable pub send_with : Format → List ℕ → ℕ → Bool → ℕ → List ℕ → Message → SendOutcome
send_with F b q asked w out m = checked (λ n. not_sent n b out) (send_checks b q asked w out (F.size m)) (sent_with F b out m)

-- "with M[i] absent, send p = C[i] + w with start; else p = M[i].p + w without. Apply it to the own replica in the same call."
abbrev pub count_of : List ℕ → ℕ → ℕ → Message
count_of b q w = count_message (own_card b) q w (state b)

unfoldable pub count_on : List ℕ → ℕ → ℕ → List ℕ → SendOutcome
count_on b q w out = send_with format_2 b q (is_amount w) w out (count_of b q w)

-- "send every present entry's (j, p, c), and apply. An empty clear is sent too."
abbrev pub clear_of : List ℕ → ℕ → Message
clear_of b q = clear_message (cards b) q (state b)

unfoldable pub clear_on : List ℕ → ℕ → List ℕ → SendOutcome
clear_on b q out = send_with format_2 b q true 0 out (clear_of b q)

-- ---- read and clear in one call: "clears, and returns the value beside what clear returns"

-- what the call answers, and what it leaves in the replica and in the output
pub record ClearedOutcome : Type 0 where
  pub answer : Cleared
  pub words : List ℕ
  pub out : List ℕ

-- a value beside what a call that sends answers, and beside all that it gives
abbrev pub beside : ℕ → Sent → Cleared
beside value sent = record { number = sent.number; value = value; sequence = sent.sequence; length = sent.length }

abbrev pub with_value : ℕ → SendOutcome → ClearedOutcome
with_value value done = record { answer = beside value done.answer; words = done.words; out = done.out }

-- "The value is the one that read gives just before the clear."; a refusal is "its number with zeros"
abbrev pub with_value_read : List ℕ → ℕ → SendOutcome → ClearedOutcome
with_value_read b q done = with_value (cond (eqb done.answer.number 0) (reading b q).value 0) done

unfoldable pub read_and_clear_on : List ℕ → ℕ → List ℕ → ClearedOutcome
read_and_clear_on b q out = with_value_read b q (clear_on b q out)

-- ---- take: "1, 6, 3, 2, 7, 8, 9, 10"

pub record TakeOutcome : Type 0 where
  pub answer : Taken
  pub words : List ℕ

-- of a message that reads, before its sequence is looked at: "3, 2, 7"
abbrev pub address_checks : List ℕ → Received → List Check
address_checks b m =
    or_else (ltb (counter_of m.content) (counters b)) bad_counter ∷ or_else (row_well_formed b (counter_of m.content)) bad_row
    ∷ or_else (cards_known (cards b) (own_card b) m.sender m.content) bad_card ∷ []

-- and then: "8, 9, 10"
abbrev pub order_checks : List ℕ → Received → List Check
order_checks b m =
    or_else (ltb (N_of (cards b) b m.sender) m.sequence) repeated ∷ or_else (leb m.sequence (N_of (cards b) b m.sender + 1)) early
    ∷ or_else (plausible (C_of b) (own_card b) m.sender m.content) implausible ∷ []

abbrev pub message_checks : List ℕ → Received → List Check
message_checks b m = address_checks b m ++ order_checks b m

abbrev pub take_checks : Format → List ℕ → List ℕ → List Check
take_checks F b bytes = or_else (right b) bad_replica ∷ or_else (F.reads bytes) unreadable ∷ message_checks b (F.received bytes)

abbrev pub not_taken : ℕ → List ℕ → TakeOutcome
not_taken number b = record { answer = record { number = number; sequence = 0 }; words = b }

-- what an accepted take of message m leaves
abbrev pub taken_with : List ℕ → Received → TakeOutcome
taken_with b m = record { answer = record { number = 0; sequence = m.sequence }; words = words_after m.sender m.content b }

unfoldable pub take_with : Format → List ℕ → List ℕ → TakeOutcome
take_with F b bytes = checked (λ n. not_taken n b) (take_checks F b bytes) (taken_with b (F.received bytes))

abbrev pub take_on : List ℕ → List ℕ → TakeOutcome
take_on b bytes = take_with format_2 b bytes
