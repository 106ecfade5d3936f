-- CLAIMS. The scenarios of a single card (SPECIFICATION 10.1), computed on the calls' definitions.
use Rattle.std.specs.Prelude.{ℕ, ◌+◌, ◌-◌, ◌≡◌, refl, List, [], ◌∷◌, Bool, true, not, ◌&&◌, replicate, set, eqb}
use Rattle.protocol.specs.Limits.{MAX}
use Rattle.protocol.proofs.Tables.{put, sum, bits}
use Rattle.protocol.specs.Entry.{incremented, cleared}
use Rattle.protocol.specs.Chassis.{count_message, present_entries, clear_message, read_value, read_holders}
use Rattle.protocol.proofs.StoreLaws.{cleared_words, taken_words, shown}
use Rattle.protocol.specs.Functions.{bit, with_bit, any_below, all_below, count_below}
use Rattle.protocol.specs.Acceptance.{tables_well_formed, entry_well_formed, card_well_formed, all_entries, cards_known, increment_plausible, entry_plausible, plausible}
use Rattle.wire.specs.Number.{number_at, bytes_of}
use Rattle.wire.specs.Message as form
use Rattle.wire.specs.declared.Message.{Message}
use Rattle.wire.specs.Message.{version_1, version_2, header_bytes, increment_bytes, entry_bytes, entries_bytes, clear_bytes, message_bytes, header_in_range, amount_in_range, increment_in_range, clear_in_range, entry_in_range, entries_in_range, unused, in_range, increment_message, entries_at, called_length, message_at, reads}
use Rattle.replica_model.specs.Layout.{replica_length, C_of, N_of, entry_of, fresh_words}
use Rattle.replica_model.specs.Calls.{replica_fits, words_after, send_with, take_with, sizes_in_range, right, row_well_formed, open_on, reading, is_quiet, read_on, active_on, count_on, clear_on, read_and_clear_on, take_on}
use Rattle.replica_model.specs.Format.{content}

room : ℕ → List ℕ
room n = replicate n 0

-- the number that a take of the message answers
answer_to : List ℕ → Message → ℕ
answer_to b m = (take_on b (message_bytes m)).answer.number

-- card 0's first increment with another sequence
numbered : ℕ → Message
numbered sequence = increment_message version_2 0 sequence 0 1 1 1

-- "Clear on a fresh replica: 28 bytes, N 1, C 0."
clear_on_fresh : Bool
clear_on_fresh =
    let b = fresh_words 2 2 0 in
    let done = clear_on b 0 (room 40) in
    eqb done.answer.number 0 && eqb done.answer.length 28 && eqb (N_of 2 done.words 0) 1 && eqb (C_of done.words 0) 0

-- "Fresh replica, in turn: sequence 0 is 6, 2 is 9, 1 taken, 1 again is 8."
sequences : Bool
sequences =
    let b = fresh_words 2 2 1 in
    let taken = take_on b (message_bytes (numbered 1)) in
    eqb (answer_to b (numbered 0)) 6 && eqb (answer_to b (numbered 2)) 9 && eqb taken.answer.number 0 && eqb (answer_to taken.words (numbered 1)) 8

-- "39 output bytes: 5; 40: accepted."
output_lengths : Bool
output_lengths =
    let b = fresh_words 2 2 0 in
    eqb (count_on b 0 1 (room 39)).answer.number 5 && eqb (count_on b 0 1 (room 40)).answer.number 0

-- "k = 64 accepted, 65 is 1."
counter_limits : Bool
counter_limits =
    let b = room (replica_length 1 64) in
    let c = room (replica_length 1 65) in
    eqb (open_on b 1 64 0).number 0 && eqb (open_on c 1 65 0).number 1

-- "r = 12 accepted, 13 is 1": by open, and by a read, a count and a take on the words of so many cards
on_cards : ℕ → ℕ → Bool
on_cards r number =
    let b = fresh_words r 1 0 in
    eqb (open_on (room (replica_length r 1)) r 1 (r - 1)).number number && eqb (read_on b 0).number number
    && eqb (count_on b 0 1 (room 40)).answer.number number && eqb (answer_to b (increment_message version_2 1 1 0 1 1 1)) number

card_limits : Bool
card_limits = on_cards 11 0 && on_cards 12 0 && on_cards 13 1

-- "With r = 2, a sender or an entry's card of 2 or 11 is 7, and one of 12 or 15 is 6."
named : ℕ → ℕ → Bool
named card number =
    let b = fresh_words 2 1 0 in
    eqb (answer_to b (increment_message version_2 card 1 0 1 1 1)) number
    && eqb (answer_to b (form.clear_message version_2 1 1 0 (record { card = card; p = 1; c = 1 } ∷ []))) number

cards_named : Bool
cards_named = named 2 7 && named 11 7 && named 12 6 && named 15 6

-- "(1,0,0,1) (1,0,0,1) (1,0,1,1): counter 1 has (3,2,3), value 1."
third_count : Bool
third_count =
    let b = (count_on (fresh_words 2 2 0) 0 1 (room 40)).words in
    let c = (count_on b 0 1 (room 40)).words in
    let d = (count_on c 1 1 (room 40)).words in
    let e = entry_of 2 d 1 0 in
    eqb e.p 3 && eqb e.n 2 && eqb e.c 3 && eqb (read_on d 1).value 1

-- "(1,0,0,1) (2,0,0,0) (1,0,0,1): (2,1,2), value 1."
count_clear_count : Bool
count_clear_count =
    let b = (count_on (fresh_words 2 2 0) 0 1 (room 40)).words in
    let c = (clear_on b 0 (room 48)).words in
    let d = (count_on c 0 1 (room 40)).words in
    let e = entry_of 2 d 0 0 in
    eqb e.p 2 && eqb e.n 1 && eqb e.c 2 && eqb (read_on d 0).value 1

-- Two counts, then read-and-clear: one holder, so 48 bytes; into 47 it answers 5 and no value. Right after it the value is 0.
count_count_read_and_clear : Bool
count_count_read_and_clear =
    let b = (count_on (fresh_words 2 2 0) 0 1 (room 40)).words in
    let c = (count_on b 0 1 (room 40)).words in
    let done = read_and_clear_on c 0 (room 48) in
    let short = read_and_clear_on c 0 (room 47) in
    eqb done.answer.number 0 && eqb done.answer.value 2 && eqb done.answer.sequence 3 && eqb done.answer.length 48 && eqb (read_on done.words 0).value 0
    && eqb short.answer.number 5 && eqb short.answer.value 0

-- A fresh counter is quiet. Card 2 of three takes card 1's clear before card 0's count that it cancels: the value is 0 and card 0 holds, so it is not quiet, though
-- its own entry is absent; when the count has come it is. A count of its own ends that. The read of a counter that is not there is refused and not quiet.
value_0_and_quiet : Bool
value_0_and_quiet =
    let fresh = fresh_words 3 1 2 in
    let b = (take_on fresh (message_bytes (form.clear_message version_2 1 1 0 (record { card = 0; p = 1; c = 1 } ∷ [])))).words in
    let c = (take_on b (message_bytes (increment_message version_2 0 1 0 1 1 1))).words in
    let d = (count_on c 0 1 (room 40)).words in
    is_quiet (read_on fresh 0)
    && eqb (read_on b 0).value 0 && eqb (read_on b 0).holders 1 && not (is_quiet (read_on b 0))
    && is_quiet (read_on c 0)
    && not (is_quiet (read_on d 0)) && not (is_quiet (read_on c 1))

-- card 0 of one, with one counter, that has counted C units in one message
one_message : ℕ → List ℕ
one_message C = 1 ∷ 1 ∷ 0 ∷ 0 ∷ C ∷ 1 ∷ 0 ∷ 0 ∷ 0 ∷ []

-- C counts units and N messages: a row with C above N is well-formed, and one with C above MAX is not.
units_and_messages : Bool
units_and_messages = row_well_formed (one_message 2) 0 && row_well_formed (one_message MAX) 0 && not (row_well_formed (one_message (MAX + 1)) 0)

-- With C at MAX - 5, a count by 6 is 4 and one by 5 is accepted; amounts 0 and 65,536 are 16, which comes before 4; 65,535 is accepted.
amounts : Bool
amounts =
    let b = one_message (MAX - 5) in
    eqb (count_on b 0 6 (room 40)).answer.number 4 && eqb (count_on b 0 5 (room 40)).answer.number 0
    && eqb (count_on b 0 0 (room 40)).answer.number 16 && eqb (count_on b 0 65536 (room 40)).answer.number 16
    && eqb (count_on (fresh_words 1 1 0) 0 65536 (room 40)).answer.number 16 && eqb (count_on (fresh_words 1 1 0) 0 65535 (room 40)).answer.number 0

-- Counts by 3 and by 4 leave (7,0,7), C 7 and N 2, and so does taking them. A start by 2 with p = 3 is 10, and so is p = 2 by 2 without start; a message of version 1 is 6.
three_and_four : Bool
three_and_four =
    let first = count_on (fresh_words 2 1 0) 0 3 (room 40) in
    let second = count_on first.words 0 4 (room 40) in
    let other = fresh_words 2 1 1 in
    let taken = (take_on (take_on other first.out).words second.out).words in
    let e = entry_of 2 second.words 0 0 in
    let f = entry_of 2 taken 0 0 in
    eqb e.p 7 && eqb e.n 0 && eqb e.c 7 && eqb (C_of second.words 0) 7 && eqb (N_of 2 second.words 0) 2
    && eqb f.p 7 && eqb f.n 0 && eqb f.c 7 && eqb (C_of taken 0) 7 && eqb (N_of 2 taken 0) 2 && eqb (read_on taken 0).value 7
    && eqb (answer_to other (increment_message version_2 0 1 0 3 1 2)) 10
    && eqb (answer_to other (increment_message version_2 0 1 0 2 0 2)) 10
    && eqb (answer_to other (increment_message version_1 0 1 0 1 1 0)) 6

-- Of 64 counters, counts on 0 and 63 make those two active, a clear of 0 leaves 63, and a word with all 64 bits one is accepted by the call.
active_of_64 : Bool
active_of_64 =
    let b = (count_on (fresh_words 1 64 0) 63 1 (room 40)).words in
    let c = (count_on b 0 1 (room 40)).words in
    let d = (clear_on c 0 (room 48)).words in
    eqb (active_on (fresh_words 1 64 0)).counters 0 && eqb (active_on b).counters 9223372036854775808 && eqb (active_on c).counters 9223372036854775809
    && eqb (active_on d).counters 9223372036854775808 && eqb (active_on d).number 0
    && eqb (active_on (set (fresh_words 1 64 0) 3 18446744073709551615)).number 0

-- Card 2 of three: a clear that comes before the count it cancels makes its counter active, and that count makes it quiet again.
active_ahead : Bool
active_ahead =
    let fresh = fresh_words 3 2 2 in
    let b = (take_on fresh (message_bytes (form.clear_message version_2 1 1 1 (record { card = 0; p = 1; c = 1 } ∷ [])))).words in
    let c = (take_on b (message_bytes (increment_message version_2 0 1 1 1 1 1))).words in
    eqb (active_on b).counters 2 && eqb (active_on c).counters 0

-- A fresh replica of two counters with another word of bits: 1 disagrees with row 0 alone, which is 2, and the call answers it all the same; 5 has a bit for counter 2,
-- which is 1.
other_bits : Bool
other_bits =
    let b : List ℕ = set (fresh_words 2 2 0) 3 1 in
    let high : List ℕ = set (fresh_words 2 2 0) 3 5 in
    eqb (read_on b 0).number 2 && eqb (read_on b 1).number 0 && eqb (count_on b 0 1 (room 40)).answer.number 2 && eqb (clear_on b 0 (room 40)).answer.number 2
    && eqb (answer_to b (increment_message version_2 1 1 0 1 1 1)) 2 && eqb (answer_to b (increment_message version_2 1 1 1 1 1 1)) 0
    && eqb (active_on b).number 0 && eqb (active_on b).counters 1
    && eqb (active_on high).number 1 && eqb (active_on high).counters 0 && eqb (read_on high 1).number 1 && eqb (answer_to high (increment_message version_2 1 1 1 1 1 1)) 1

pub all_examples : Bool
all_examples = clear_on_fresh && sequences && output_lengths && card_limits && cards_named && counter_limits && third_count && count_clear_count && count_count_read_and_clear && value_0_and_quiet
    && units_and_messages && amounts && three_and_four && active_of_64 && active_ahead && other_bits

pub examples_hold : all_examples ≡ true
unfolding all_examples active_of_64 active_ahead other_bits active_on clear_on_fresh numbered sequences output_lengths on_cards card_limits named cards_named counter_limits third_count count_clear_count count_count_read_and_clear value_0_and_quiet one_message units_and_messages amounts three_and_four answer_to room sizes_in_range right replica_fits all_below any_below bit with_bit count_below entry_well_formed card_well_formed row_well_formed tables_well_formed open_on reading read_on send_with words_after count_on clear_on read_and_clear_on content all_entries cards_known increment_plausible entry_plausible plausible take_with fresh_words header_bytes increment_bytes entry_bytes entries_bytes clear_bytes message_bytes header_in_range amount_in_range increment_in_range clear_in_range entry_in_range entries_in_range unused in_range increment_message entries_at called_length message_at reads number_at bytes_of cleared_words taken_words shown count_message present_entries clear_message read_value read_holders put sum bits incremented cleared form.clear_message
examples_hold = refl
