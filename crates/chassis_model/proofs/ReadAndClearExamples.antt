-- CLAIMS. Small lists with read and clear, computed on a run's words: the answers, the sum of the values, the value at the end and the increments received. The last two
-- show that the total's hypothesis is needed: another card's read and clear, and a plain clear by the card itself.
use Rattle.std.specs.Prelude.{ℕ, ◌≡◌, refl, List, [], ◌∷◌, map, replicate}
use Rattle.std.proofs.Common.{arith}
use Rattle.protocol.proofs.Tables.{put, sum, bits}
use Rattle.protocol.specs.Entry.{incremented, cleared}
use Rattle.protocol.specs.Chassis.{count_message, present_entries, clear_message, read_value, read_holders}
use Rattle.protocol.proofs.StoreLaws.{cleared_words, taken_words, shown}
use Rattle.protocol.specs.Functions.{bit, with_bit, any_below, all_below, count_below}
use Rattle.protocol.specs.Acceptance.{entry_well_formed, card_well_formed, all_entries, cards_known, increment_plausible, entry_plausible, plausible, tables_well_formed}
use Rattle.protocol.specs.OneClears.{is_clear}
use Rattle.protocol.specs.Increments.{increments_from, increments_received}
use Rattle.wire.specs.Number.{number_at, bytes_of}
use Rattle.wire.specs.Message as form
use Rattle.wire.specs.Message.{version_2, header_bytes, increment_bytes, entry_bytes, entries_bytes, clear_bytes, message_bytes, header_in_range, increment_in_range, amount_in_range, clear_in_range, entry_in_range, entries_in_range, unused, in_range, increment_message, entries_at, called_length, message_at, reads, front_length}
use Rattle.replica_model.specs.Layout.{fresh_words}
use Rattle.replica_model.specs.Calls.{sizes_in_range, right, row_well_formed, reading, read_on, count_on, clear_on, read_and_clear_on, replica_fits, send_with, words_after, take_with}
use Rattle.replica_model.specs.Format.{content}
use Rattle.chassis_model.specs.ListParts.{part, put_part}
use Rattle.chassis_model.specs.Log.{waiting_part, end_of}
use Rattle.chassis_model.specs.Run as run
use Rattle.chassis_model.specs.Run.{Step, action_of, amount_fits, call_of, delivered, acted, state_after, answers_of, numbers_in, values_in, fresh_replicas}
use Rattle.chassis_model.specs.Ledger.{ledger_action, ledger_step, accepted_of}
use Rattle.chassis_model.specs.Driver as driver
use Rattle.chassis_model.specs.Driver.{Call, opened, wrote, sent, called, number_of, value_of, after, numbers, values, cards_after, call_step}
use Rattle.chassis_model.specs.ReadAndClearOf.{call_action, OnlyReadAndClears, is_read_and_clear, collected, reads_before}
use Rattle.chassis_model.proofs.AloneExamples.{count, clear, read_and_clear, deliver, answers, value_read}

-- what the longest of the lists takes is 196 bytes of card 1's log
abbrev L : ℕ
L = 196

-- of card h and counter q: the sum of the values that its read and clears answered, its value at the end, and the increments that it has received
pub record Total : Type 0 where
  pub sum : ℕ
  pub value : ℕ
  pub received : ℕ

abbrev pub of_three : ℕ → ℕ → ℕ → Total
of_three a b c = record { sum = a; value = b; received = c }

abbrev pub total : ℕ → ℕ → List Step → Total
total h q steps = record {
  sum = collected h q (map action_of steps) (numbers_in (answers L steps)) (values_in (answers L steps));
  value = value_read L steps h q;
  received = increments_received h q (map ledger_step steps) (accepted_of (numbers_in (answers L steps)));
}

-- Card 1 collects counter 0 of two cards and two counters. It takes one of card 0's two counts and collects it (1); counts one of its own, takes card 0's second
-- (made before the clear came), and collects both (2); then counts one more. A clear of counter 1 by card 0 and read and clears of q by a card that is not there do
-- not matter.
abbrev pub collecting : List Step
collecting =
    count 0 0 ∷ count 0 0 ∷ deliver 1 0 ∷ read_and_clear 1 0 ∷ clear 0 1 ∷ read_and_clear 2 0 ∷ count 1 0 ∷ deliver 1 0 ∷ read_and_clear 1 0 ∷ count 1 0 ∷ []

pub collecting_adds_up :
    (answers L collecting ≡ 0 ∷ 0 ∷ 0 ∷ 0 ∷ 0 ∷ 0 ∷ 0 ∷ 1 ∷ 0 ∷ 0 ∷ 7 ∷ 0 ∷ 0 ∷ 0 ∷ 0 ∷ 0 ∷ 0 ∷ 2 ∷ 0 ∷ 0 ∷ [])
    × (total 1 0 collecting ≡ of_three 3 1 4)
    -- card 0 has received its own two: it has not taken the clears
    × (total 0 0 collecting ≡ of_three 0 2 2)
    -- "(1,0,0,1) (1,0,0,1) (4,0,0,0): the third step answers 0 and 2; then value 0."
    × (answers L (count 0 0 ∷ count 0 0 ∷ read_and_clear 0 0 ∷ []) ≡ 0 ∷ 0 ∷ 0 ∷ 0 ∷ 0 ∷ 2 ∷ []) × (value_read L (count 0 0 ∷ count 0 0 ∷ read_and_clear 0 0 ∷ []) 0 0 ≡ 0)
    -- another card's read and clear breaks it, and so does a plain clear by the card itself
    × (total 0 0 (count 0 0 ∷ deliver 1 0 ∷ read_and_clear 1 0 ∷ deliver 0 1 ∷ read_and_clear 0 0 ∷ []) ≡ of_three 0 0 1)
    × (total 0 0 (count 0 0 ∷ clear 0 0 ∷ read_and_clear 0 0 ∷ []) ≡ of_three 0 0 1)
unfolding put sum bits incremented cleared count_message present_entries clear_message read_value read_holders cleared_words taken_words shown number_at bytes_of header_bytes increment_bytes entry_bytes entries_bytes clear_bytes message_bytes header_in_range increment_in_range amount_in_range clear_in_range entry_in_range entries_in_range unused in_range increment_message entries_at called_length message_at reads front_length form.clear_message fresh_words sizes_in_range right replica_fits all_below any_below bit with_bit count_below entry_well_formed card_well_formed row_well_formed tables_well_formed reading read_on send_with words_after count_on clear_on read_and_clear_on content all_entries cards_known increment_plausible entry_plausible plausible take_with part put_part waiting_part end_of action_of amount_fits call_of run.made delivered acted state_after answers_of numbers_in values_in fresh_replicas ledger_action increments_from is_read_and_clear collected
collecting_adds_up = (refl, refl, refl, refl, refl, refl, refl)

-- The total speaks of this list, card 1 and counter 0: its accepted clears of counter 0 are card 1's read and clears.
pub collecting_only : OnlyReadAndClears 1 0 (map action_of collecting) (0 ∷ 0 ∷ 0 ∷ 0 ∷ 0 ∷ 7 ∷ 0 ∷ 0 ∷ 0 ∷ 0 ∷ [])
unfolding action_of
collecting_only = (λ a. tt, (λ a. tt, (λ a. tt, (λ a e. refl, (λ a e. omega arith, (λ a. absurd (omega arith), (λ a. tt, (λ a. tt, (λ a e. refl, (λ a. tt, tt))))))))))

-- The same of a driver's calls on two cards. Card 0 counts, card 1 takes its message, collects (1), cannot collect into 47 bytes since it holds an entry again (5), and
-- has counted one of its own: 1 and 1 are the 2 that it has received.
abbrev pub history : List Call
history =
    driver.count 0 0 1 (replicate 40 9) ∷ driver.take 1 (message_bytes (increment_message version_2 0 1 0 1 1 1)) ∷ driver.read_and_clear 1 0 (replicate 48 9)
    ∷ driver.count 1 0 1 (replicate 40 9) ∷ driver.read_and_clear 1 0 (replicate 47 9) ∷ []

pub history_adds_up :
    let answered = numbers history (opened 2 1) in
    (answered ≡ 0 ∷ 0 ∷ 0 ∷ 0 ∷ 5 ∷ []) × (values history (opened 2 1) ≡ 0 ∷ 0 ∷ 1 ∷ 0 ∷ 0 ∷ [])
    × (collected 1 0 (map call_action history) answered (values history (opened 2 1)) ≡ 1) × ((read_on ((cards_after 2 1 history).words 1) 0).value ≡ 1)
    × (increments_received 1 0 (map call_step history) (accepted_of answered) ≡ 2)
    -- read right before the accepted one, it was 1 too; before the refused one nothing is taken
    × (reads_before 1 0 history (opened 2 1) ≡ 1)
unfolding put sum bits incremented cleared count_message present_entries clear_message read_value read_holders cleared_words taken_words shown number_at bytes_of header_bytes increment_bytes entry_bytes entries_bytes clear_bytes message_bytes header_in_range increment_in_range amount_in_range clear_in_range entry_in_range entries_in_range unused in_range increment_message entries_at called_length message_at reads front_length form.clear_message fresh_words sizes_in_range right replica_fits all_below any_below bit with_bit count_below entry_well_formed card_well_formed row_well_formed tables_well_formed reading read_on send_with words_after count_on clear_on read_and_clear_on content all_entries cards_known increment_plausible entry_plausible plausible take_with call_of wrote sent called number_of value_of after numbers values ledger_action increments_from is_read_and_clear collected is_clear reads_before
history_adds_up = (refl, refl, refl, refl, refl, refl)
