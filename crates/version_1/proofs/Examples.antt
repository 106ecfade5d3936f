-- CLAIMS. Orders from the bench by version 1's rules, computed; each figure was worked out by hand. With a replica that no run leaves, on which the two rules differ.
use Rattle.std.specs.Prelude.{ℕ, ◌≡◌, refl, List, [], ◌∷◌, ◌++◌, Bool, length, replicate, eqb}
use Rattle.protocol.specs.Limits.{MAX, bad_replica, bad_row, bad_counter, exhausted, short_output, unreadable, bad_card, repeated, early, implausible, nothing_waiting}
use Rattle.protocol.proofs.Tables.{put}
use Rattle.protocol.specs.Entry.{cleared}
use Rattle.protocol.specs.Entry as entry
use Rattle.protocol.specs.Functions.{bit, with_bit, any_below, all_below}
use Rattle.protocol.specs.RoundRobin.{Link, link}
use Rattle.protocol.specs.Acceptance as acceptance
use Rattle.protocol.specs.Acceptance.{entry_well_formed, card_well_formed, tables_well_formed, all_entries, cards_known, increment_plausible, entry_plausible}
use Rattle.protocol.specs.Chassis.{present_entries, clear_message}
use Rattle.protocol.specs.Store.{cleared_words, taken_words, shown}
use Rattle.wire.specs.Number.{number_at, bytes_of}
use Rattle.wire.specs.declared.Message as wire
use Rattle.wire.specs.Message as form
use Rattle.wire.specs.Message.{header_bytes, increment_bytes, entry_bytes, entries_bytes, clear_bytes, message_bytes, header_in_range, increment_in_range, amount_in_range, clear_in_range, entry_in_range, entries_in_range, unused, in_range, increment_message, entries_at, called_length, message_at, reads, front_length, log_bytes, messages_from}
use Rattle.conversion.specs.Conversion.{in_version, converted}
use Rattle.replica_model.specs.Layout.{fresh_words}
use Rattle.replica_model.specs.Calls as today
use Rattle.replica_model.specs.Calls.{sizes_in_range, replica_fits, right, take_with}
use Rattle.replica_model.specs.Format as format
use Rattle.version_1.specs.Rules.{content, row_well_formed, increment_implausible, plausible, incremented, words_after, send, count_of, count_on, take_on}
use Rattle.version_1.specs.Run.{Step, count, clear, deliver, Chassis, fresh, made, delivered, after_deliveries, delivery_numbers, step_on, after_steps, after_run, deliver_steps, by_old_rules, old_numbers, by_new_rules, new_numbers}

-- card 0 counts, card 1 has it and clears, card 0 counts again: card 0's log has its two increments, 36 bytes each
abbrev pub steps : List Step
steps = count 0 0 ∷ deliver 1 0 ∷ clear 1 0 ∷ count 0 0 ∷ []

pub log_of_0 : (after_run 2 1 72 steps).logs 0
    ≡ 0 ∷ 0 ∷ 0 ∷ 1 ∷ 0 ∷ 0 ∷ 0 ∷ 1 ∷ 0 ∷ 0 ∷ 0 ∷ 0 ∷ 0 ∷ 0 ∷ 0 ∷ 0 ∷ 0 ∷ 0 ∷ 0 ∷ 1 ∷ 0 ∷ 0 ∷ 0 ∷ 0
    ∷ 0 ∷ 0 ∷ 0 ∷ 0 ∷ 0 ∷ 0 ∷ 0 ∷ 1 ∷ 0 ∷ 0 ∷ 0 ∷ 1
    ∷ 0 ∷ 0 ∷ 0 ∷ 1 ∷ 0 ∷ 0 ∷ 0 ∷ 1 ∷ 0 ∷ 0 ∷ 0 ∷ 0 ∷ 0 ∷ 0 ∷ 0 ∷ 0 ∷ 0 ∷ 0 ∷ 0 ∷ 2 ∷ 0 ∷ 0 ∷ 0 ∷ 0
    ∷ 0 ∷ 0 ∷ 0 ∷ 0 ∷ 0 ∷ 0 ∷ 0 ∷ 2 ∷ 0 ∷ 0 ∷ 0 ∷ 0 ∷ []
unfolding put all_below any_below bit with_bit entry.incremented cleared entry_well_formed card_well_formed tables_well_formed all_entries cards_known increment_plausible entry_plausible acceptance.plausible present_entries clear_message cleared_words taken_words shown number_at bytes_of header_bytes increment_bytes entry_bytes entries_bytes clear_bytes message_bytes header_in_range increment_in_range amount_in_range clear_in_range entry_in_range entries_in_range unused in_range increment_message form.clear_message entries_at called_length message_at reads front_length log_bytes messages_from in_version converted fresh_words sizes_in_range replica_fits right today.row_well_formed today.words_after take_with format.content content row_well_formed increment_implausible plausible incremented words_after send count_of take_on made delivered after_deliveries delivery_numbers step_on after_steps
log_of_0 = refl

pub words_left : ((after_run 2 1 72 steps).words 0 ≡ 2 ∷ 1 ∷ 0 ∷ 1 ∷ 2 ∷ 0 ∷ 2 ∷ 0 ∷ 2 ∷ 0 ∷ 2 ∷ 0 ∷ 0 ∷ 0 ∷ [])
    × ((after_run 2 1 72 steps).words 1 ≡ 2 ∷ 1 ∷ 1 ∷ 0 ∷ 1 ∷ 0 ∷ 1 ∷ 1 ∷ 0 ∷ 0 ∷ 0 ∷ 0 ∷ 0 ∷ 0 ∷ [])
unfolding put all_below any_below bit with_bit entry.incremented cleared entry_well_formed card_well_formed tables_well_formed all_entries cards_known increment_plausible entry_plausible acceptance.plausible present_entries clear_message cleared_words taken_words shown number_at bytes_of header_bytes increment_bytes entry_bytes entries_bytes clear_bytes message_bytes header_in_range increment_in_range amount_in_range clear_in_range entry_in_range entries_in_range unused in_range increment_message form.clear_message entries_at called_length message_at reads front_length log_bytes messages_from in_version converted fresh_words sizes_in_range replica_fits right today.row_well_formed today.words_after take_with format.content content row_well_formed increment_implausible plausible incremented words_after send count_of take_on made delivered after_deliveries delivery_numbers step_on after_steps
words_left = (refl, refl)

-- one byte less, and the second count is declined: card 0's log keeps 36 bytes, and its words the first count
pub log_full : (length ((after_run 2 1 71 steps).logs 0) ≡ 36) × ((after_run 2 1 71 steps).words 0 ≡ 2 ∷ 1 ∷ 0 ∷ 1 ∷ 1 ∷ 0 ∷ 1 ∷ 0 ∷ 1 ∷ 0 ∷ 1 ∷ 0 ∷ 0 ∷ 0 ∷ [])
unfolding put all_below any_below bit with_bit entry.incremented cleared entry_well_formed card_well_formed tables_well_formed all_entries cards_known increment_plausible entry_plausible acceptance.plausible present_entries clear_message cleared_words taken_words shown number_at bytes_of header_bytes increment_bytes entry_bytes entries_bytes clear_bytes message_bytes header_in_range increment_in_range amount_in_range clear_in_range entry_in_range entries_in_range unused in_range increment_message form.clear_message entries_at called_length message_at reads front_length log_bytes messages_from in_version converted fresh_words sizes_in_range replica_fits right today.row_well_formed today.words_after take_with format.content content row_well_formed increment_implausible plausible incremented words_after send count_of take_on made delivered after_deliveries delivery_numbers step_on after_steps
log_full = (refl, refl)

-- then each takes what the other has made, and what does not wait is declined: both have (2,1,2), by either rules
abbrev pub links : List Link
links = link 0 1 ∷ link 0 1 ∷ link 1 1 ∷ link 1 0 ∷ link 2 0 ∷ []

pub old_left : ((by_old_rules 2 links (after_run 2 1 72 steps)).words 0 ≡ 2 ∷ 1 ∷ 0 ∷ 1 ∷ 2 ∷ 0 ∷ 2 ∷ 1 ∷ 2 ∷ 1 ∷ 2 ∷ 0 ∷ 0 ∷ 0 ∷ [])
    × ((by_old_rules 2 links (after_run 2 1 72 steps)).words 1 ≡ 2 ∷ 1 ∷ 1 ∷ 1 ∷ 2 ∷ 0 ∷ 2 ∷ 1 ∷ 2 ∷ 1 ∷ 2 ∷ 0 ∷ 0 ∷ 0 ∷ [])
    × (old_numbers 2 links (after_run 2 1 72 steps) ≡ 0 ∷ nothing_waiting ∷ bad_card ∷ 0 ∷ bad_card ∷ [])
unfolding put all_below any_below bit with_bit entry.incremented cleared entry_well_formed card_well_formed tables_well_formed all_entries cards_known increment_plausible entry_plausible acceptance.plausible present_entries clear_message cleared_words taken_words shown number_at bytes_of header_bytes increment_bytes entry_bytes entries_bytes clear_bytes message_bytes header_in_range increment_in_range amount_in_range clear_in_range entry_in_range entries_in_range unused in_range increment_message form.clear_message entries_at called_length message_at reads front_length log_bytes messages_from in_version converted fresh_words sizes_in_range replica_fits right today.row_well_formed today.words_after take_with format.content content row_well_formed increment_implausible plausible incremented words_after send count_of take_on made delivered after_deliveries delivery_numbers step_on after_steps
old_left = (refl, refl, refl)

pub new_left : ((by_new_rules 2 links (after_run 2 1 72 steps)).words 0 ≡ 2 ∷ 1 ∷ 0 ∷ 1 ∷ 2 ∷ 0 ∷ 2 ∷ 1 ∷ 2 ∷ 1 ∷ 2 ∷ 0 ∷ 0 ∷ 0 ∷ [])
    × ((by_new_rules 2 links (after_run 2 1 72 steps)).words 1 ≡ 2 ∷ 1 ∷ 1 ∷ 1 ∷ 2 ∷ 0 ∷ 2 ∷ 1 ∷ 2 ∷ 1 ∷ 2 ∷ 0 ∷ 0 ∷ 0 ∷ [])
    × (new_numbers 2 links (after_run 2 1 72 steps) ≡ 0 ∷ nothing_waiting ∷ bad_card ∷ 0 ∷ bad_card ∷ [])
unfolding put all_below any_below bit with_bit entry.incremented cleared entry_well_formed card_well_formed tables_well_formed all_entries cards_known increment_plausible entry_plausible acceptance.plausible present_entries clear_message cleared_words taken_words shown number_at bytes_of header_bytes increment_bytes entry_bytes entries_bytes clear_bytes message_bytes header_in_range increment_in_range amount_in_range clear_in_range entry_in_range entries_in_range unused in_range increment_message form.clear_message entries_at called_length message_at reads front_length log_bytes messages_from in_version converted fresh_words sizes_in_range replica_fits right today.row_well_formed today.words_after take_with format.content content row_well_formed increment_implausible plausible incremented words_after send count_of take_on made delivered after_deliveries delivery_numbers step_on after_steps
new_left = (refl, refl, refl)

-- The same steps and deliveries where card 0 is of version 1 and card 1 of today: the same words, and card 1's clear is of version 2, 48 bytes.
abbrev pub first_old : ℕ → Bool
first_old i = eqb i 0

abbrev pub together : Chassis
together = after_steps first_old 2 72 (steps ++ deliver_steps links) (fresh 2 1)

pub together_left : (together.words 0 ≡ 2 ∷ 1 ∷ 0 ∷ 1 ∷ 2 ∷ 0 ∷ 2 ∷ 1 ∷ 2 ∷ 1 ∷ 2 ∷ 0 ∷ 0 ∷ 0 ∷ [])
    × (together.words 1 ≡ 2 ∷ 1 ∷ 1 ∷ 1 ∷ 2 ∷ 0 ∷ 2 ∷ 1 ∷ 2 ∷ 1 ∷ 2 ∷ 0 ∷ 0 ∷ 0 ∷ [])
    × (length (together.logs 0) ≡ 72)
    × (together.logs 1
    ≡ 0 ∷ 0 ∷ 0 ∷ 2 ∷ 0 ∷ 0 ∷ 0 ∷ 2 ∷ 0 ∷ 0 ∷ 0 ∷ 1 ∷ 0 ∷ 0 ∷ 0 ∷ 0 ∷ 0 ∷ 0 ∷ 0 ∷ 1 ∷ 0 ∷ 0 ∷ 0 ∷ 0
    ∷ 0 ∷ 0 ∷ 0 ∷ 1 ∷ 0 ∷ 0 ∷ 0 ∷ 0 ∷ 0 ∷ 0 ∷ 0 ∷ 0 ∷ 0 ∷ 0 ∷ 0 ∷ 1 ∷ 0 ∷ 0 ∷ 0 ∷ 0 ∷ 0 ∷ 0 ∷ 0 ∷ 1 ∷ [])
unfolding put all_below any_below bit with_bit entry.incremented cleared entry_well_formed card_well_formed tables_well_formed all_entries cards_known increment_plausible entry_plausible acceptance.plausible present_entries clear_message cleared_words taken_words shown number_at bytes_of header_bytes increment_bytes entry_bytes entries_bytes clear_bytes message_bytes header_in_range increment_in_range amount_in_range clear_in_range entry_in_range entries_in_range unused in_range increment_message form.clear_message entries_at called_length message_at reads front_length log_bytes messages_from in_version converted fresh_words sizes_in_range replica_fits right today.row_well_formed today.words_after take_with format.content today.clear_on today.send_with content row_well_formed increment_implausible plausible incremented words_after send count_of take_on made delivered after_deliveries delivery_numbers step_on after_steps
together_left = (refl, refl, refl, refl)

-- Card 1's words with C above N, as no run of version 1 leaves them: an increment of card 0 with p = 2 and start is 2 by version 1's rules, and by those of today, converted, it is taken.
abbrev pub ahead : List ℕ
ahead = 2 ∷ 1 ∷ 1 ∷ 0 ∷ 1 ∷ 0 ∷ 0 ∷ 0 ∷ 0 ∷ 0 ∷ 0 ∷ 0 ∷ 0 ∷ 0 ∷ []

pub rules_differ : let m = increment_message form.version_1 0 1 0 2 1 0 in
    ((take_on ahead (message_bytes m)).answer.number ≡ bad_row) × ((today.take_on ahead (message_bytes (in_version form.version_2 m))).answer.number ≡ 0)
unfolding put all_below any_below bit with_bit entry.incremented cleared entry_well_formed card_well_formed tables_well_formed all_entries cards_known increment_plausible entry_plausible acceptance.plausible present_entries clear_message cleared_words taken_words shown number_at bytes_of header_bytes increment_bytes entry_bytes entries_bytes clear_bytes message_bytes header_in_range increment_in_range amount_in_range clear_in_range entry_in_range entries_in_range unused in_range increment_message form.clear_message entries_at called_length message_at reads front_length log_bytes messages_from in_version converted fresh_words sizes_in_range replica_fits right today.row_well_formed today.words_after take_with format.content content row_well_formed increment_implausible plausible incremented words_after send count_of take_on made delivered after_deliveries delivery_numbers step_on after_steps
rules_differ = (refl, refl)

-- What a card of version 1 answers: card 1 of two, with one counter, which has had nothing yet; to messages of card 0, its first unless said.
abbrev old_number : wire.Message → ℕ
old_number m = (take_on (fresh_words 2 1 1) (message_bytes m)).answer.number

abbrev first_increment : (p start : ℕ) → wire.Message
first_increment p start = increment_message form.version_1 0 1 0 p start 0

abbrev first_clear : (card c : ℕ) → wire.Message
first_clear card c = form.clear_message form.version_1 0 1 0 (record { card = card; p = 1; c = c } ∷ [])

-- an increment by 1: p is C + 1 with start, and above 1 and at most C + 1 without; a clear: c is at most C, of its sender and of the card itself
pub old_takes : (old_number (first_increment 1 1) ≡ 0) × (old_number (first_increment 2 1) ≡ implausible)
    × (old_number (first_increment 1 0) ≡ implausible) × (old_number (first_increment 2 0) ≡ implausible)
    × (old_number (first_clear 0 1) ≡ implausible) × (old_number (first_clear 1 1) ≡ implausible)
    × (old_number (form.clear_message form.version_1 0 1 0 []) ≡ 0)
unfolding put all_below any_below bit with_bit entry.incremented cleared entry_well_formed card_well_formed tables_well_formed all_entries cards_known increment_plausible entry_plausible acceptance.plausible present_entries clear_message cleared_words taken_words shown number_at bytes_of header_bytes increment_bytes entry_bytes entries_bytes clear_bytes message_bytes header_in_range increment_in_range amount_in_range clear_in_range entry_in_range entries_in_range unused in_range increment_message form.clear_message entries_at called_length message_at reads front_length log_bytes messages_from in_version converted fresh_words sizes_in_range replica_fits right today.row_well_formed today.words_after take_with format.content content row_well_formed increment_implausible plausible incremented words_after send count_of take_on made delivered after_deliveries delivery_numbers step_on after_steps
old_takes = (refl, refl, refl, refl, refl, refl, refl)

-- and the others: version 2; a counter, a card that is not there, its own; a message that is not the next
pub old_declines : (old_number (increment_message form.version_2 0 1 0 1 1 1) ≡ unreadable)
    × (old_number (increment_message form.version_1 0 1 1 1 1 0) ≡ bad_counter)
    × (old_number (increment_message form.version_1 2 1 0 1 1 0) ≡ bad_card) × (old_number (increment_message form.version_1 1 1 0 1 1 0) ≡ bad_card)
    × (old_number (first_clear 2 1) ≡ bad_card) × (old_number (increment_message form.version_1 0 2 0 1 1 0) ≡ early)
    × ((take_on (take_on (fresh_words 2 1 1) (message_bytes (first_increment 1 1))).words (message_bytes (first_increment 1 1))).answer.number ≡ repeated)
    × ((take_on [] (message_bytes (first_increment 1 1))).answer.number ≡ bad_replica)
unfolding put all_below any_below bit with_bit entry.incremented cleared entry_well_formed card_well_formed tables_well_formed all_entries cards_known increment_plausible entry_plausible acceptance.plausible present_entries clear_message cleared_words taken_words shown number_at bytes_of header_bytes increment_bytes entry_bytes entries_bytes clear_bytes message_bytes header_in_range increment_in_range amount_in_range clear_in_range entry_in_range entries_in_range unused in_range increment_message form.clear_message entries_at called_length message_at reads front_length log_bytes messages_from in_version converted fresh_words sizes_in_range replica_fits right today.row_well_formed today.words_after take_with format.content content row_well_formed increment_implausible plausible incremented words_after send count_of take_on made delivered after_deliveries delivery_numbers step_on after_steps
old_declines = (refl, refl, refl, refl, refl, refl, refl, refl)

abbrev count_number : List ℕ → (q room : ℕ) → ℕ
count_number b q room = (count_on b q (replicate room 0)).answer.number

-- its count: 36 bytes are enough, 35 are not; no counter 1; and no message more than MAX
pub old_sends : (count_number (fresh_words 2 1 1) 0 36 ≡ 0) × (count_number (fresh_words 2 1 1) 0 35 ≡ short_output) × (count_number (fresh_words 2 1 1) 1 36 ≡ bad_counter)
    × (count_number (2 ∷ 1 ∷ 1 ∷ 0 ∷ 0 ∷ 0 ∷ 0 ∷ MAX ∷ 0 ∷ 0 ∷ 0 ∷ 0 ∷ 0 ∷ 0 ∷ []) 0 36 ≡ exhausted)
    × (count_number (2 ∷ 1 ∷ 1 ∷ 0 ∷ 0 ∷ 1 ∷ 0 ∷ 0 ∷ 0 ∷ 0 ∷ 0 ∷ 0 ∷ 0 ∷ 0 ∷ []) 0 36 ≡ bad_row)
unfolding put all_below any_below bit with_bit entry.incremented cleared entry_well_formed card_well_formed tables_well_formed all_entries cards_known increment_plausible entry_plausible acceptance.plausible present_entries clear_message cleared_words taken_words shown number_at bytes_of header_bytes increment_bytes entry_bytes entries_bytes clear_bytes message_bytes header_in_range increment_in_range amount_in_range clear_in_range entry_in_range entries_in_range unused in_range increment_message form.clear_message entries_at called_length message_at reads front_length log_bytes messages_from in_version converted fresh_words sizes_in_range replica_fits right today.row_well_formed today.words_after take_with format.content content row_well_formed increment_implausible plausible incremented words_after send count_of take_on made delivered after_deliveries delivery_numbers step_on after_steps
old_sends = (refl, refl, refl, refl, refl)
