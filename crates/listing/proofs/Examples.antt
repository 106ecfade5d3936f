-- CLAIMS. The listings of SPECIFICATION 9, computed on the definition, and inputs that are refused.
use Rattle.std.specs.Prelude.{ℕ, ◌≡◌, refl, List, [], ◌∷◌, ◌++◌}
use Rattle.protocol.proofs.Tables.{put, sum, bits}
use Rattle.protocol.specs.Entry.{incremented, cleared}
use Rattle.protocol.specs.Chassis.{count_message, present_entries, clear_message, read_value, read_holders}
use Rattle.protocol.proofs.StoreLaws.{cleared_words, taken_words, shown}
use Rattle.protocol.specs.Functions.{bit, with_bit, any_below, all_below, count_below}
use Rattle.protocol.specs.Acceptance.{entry_well_formed, card_well_formed, all_entries, cards_known, increment_plausible, entry_plausible, plausible, tables_well_formed}
use Rattle.wire.specs.Number.{number_at, bytes_of}
use Rattle.wire.specs.Message as form
use Rattle.wire.specs.Message.{header_bytes, increment_bytes, entry_bytes, entries_bytes, clear_bytes, message_bytes, header_in_range, amount_in_range, increment_in_range, clear_in_range, entry_in_range, entries_in_range, unused, in_range, increment_message, entries_at, called_length, message_at, reads, front_length}
use Rattle.replica_model.specs.Layout.{fresh_words}
use Rattle.replica_model.specs.Calls.{sizes_in_range, right, row_well_formed, reading, read_on, count_on, clear_on, read_and_clear_on, replica_fits, send_with, words_after, take_with}
use Rattle.replica_model.specs.Format.{content}
use Rattle.chassis_model.specs.ListParts.{part, put_part}
use Rattle.chassis_model.specs.Log.{waiting_part, end_of}
use Rattle.chassis_model.specs.Run.{made, delivered, action_of, amount_fits, call_of, acted, state_after, answers_of, fresh_replicas, chassis_fits, sizes_right, run_on, steps_at, run_bytes_on}
use Rattle.text.specs.Decimal.{digits}
use Rattle.listing.specs.Listing.{header, refused_11, line, card_lines, lines, run_words, input_right, listing_of}

-- "0,0,2,1,0"
pub first_line : line 0 0 (record { number = 0; value = 2; holders = 1; holder_count = 1 }) ≡ 48 ∷ 44 ∷ 48 ∷ 44 ∷ 50 ∷ 44 ∷ 49 ∷ 44 ∷ 48 ∷ 13 ∷ 10 ∷ []
unfolding line digits
first_line = refl

-- "1,0,0,0,1"
pub second_line : line 1 0 (record { number = 0; value = 0; holders = 0; holder_count = 0 }) ≡ 49 ∷ 44 ∷ 48 ∷ 44 ∷ 48 ∷ 44 ∷ 48 ∷ 44 ∷ 49 ∷ 13 ∷ 10 ∷ []
unfolding line digits
second_line = refl

-- "fewer than 8 bytes"
pub too_few : listing_of (0 ∷ 0 ∷ 0 ∷ 1 ∷ 0 ∷ 0 ∷ 0 ∷ []) ≡ refused_11
unfolding listing_of input_right number_at
too_few = refl

-- five cards
pub too_many_cards : listing_of (0 ∷ 0 ∷ 0 ∷ 5 ∷ 0 ∷ 0 ∷ 0 ∷ 1 ∷ []) ≡ refused_11
unfolding listing_of input_right number_at
too_many_cards = refl

-- "For r = 2, k = 1 and steps (1,0,0,1) (3,1,0,0) (2,1,0,0) (1,0,0,1)", with any kind in place of the third step's
pub document_input : ℕ → List ℕ
document_input kind =
    0 ∷ 0 ∷ 0 ∷ 2 ∷ 0 ∷ 0 ∷ 0 ∷ 1
    ∷ 0 ∷ 0 ∷ 0 ∷ 1 ∷ 0 ∷ 0 ∷ 0 ∷ 0 ∷ 0 ∷ 0 ∷ 0 ∷ 0 ∷ 0 ∷ 0 ∷ 0 ∷ 1
    ∷ 0 ∷ 0 ∷ 0 ∷ 3 ∷ 0 ∷ 0 ∷ 0 ∷ 1 ∷ 0 ∷ 0 ∷ 0 ∷ 0 ∷ 0 ∷ 0 ∷ 0 ∷ 0
    ∷ 0 ∷ 0 ∷ 0 ∷ kind ∷ 0 ∷ 0 ∷ 0 ∷ 1 ∷ 0 ∷ 0 ∷ 0 ∷ 0 ∷ 0 ∷ 0 ∷ 0 ∷ 0
    ∷ 0 ∷ 0 ∷ 0 ∷ 1 ∷ 0 ∷ 0 ∷ 0 ∷ 0 ∷ 0 ∷ 0 ∷ 0 ∷ 0 ∷ 0 ∷ 0 ∷ 0 ∷ 1 ∷ []

abbrev pub listed : List ℕ
listed = header ++ 48 ∷ 44 ∷ 48 ∷ 44 ∷ 50 ∷ 44 ∷ 49 ∷ 44 ∷ 48 ∷ 13 ∷ 10 ∷ 49 ∷ 44 ∷ 48 ∷ 44 ∷ 48 ∷ 44 ∷ 48 ∷ 44 ∷ 49 ∷ 13 ∷ 10 ∷ []

-- "0,0,2,1,0" and "1,0,0,0,1", whether card 1 clears or reads and clears
pub document_listing : (listing_of (document_input 2) ≡ listed) × (listing_of (document_input 4) ≡ listed)
unfolding document_input put sum bits incremented cleared count_message present_entries clear_message read_value read_holders cleared_words taken_words shown number_at bytes_of header_bytes increment_bytes entry_bytes entries_bytes clear_bytes message_bytes header_in_range amount_in_range increment_in_range clear_in_range entry_in_range entries_in_range unused in_range increment_message entries_at called_length message_at reads front_length form.clear_message fresh_words sizes_in_range right replica_fits all_below any_below bit with_bit count_below entry_well_formed card_well_formed row_well_formed tables_well_formed reading read_on send_with words_after count_on clear_on read_and_clear_on content all_entries cards_known increment_plausible entry_plausible plausible take_with part put_part waiting_part end_of made delivered action_of amount_fits call_of acted state_after answers_of fresh_replicas chassis_fits sizes_right run_on steps_at run_bytes_on digits line card_lines lines run_words input_right listing_of
document_listing = (refl, refl)

-- "For r = 3, k = 1 and steps (1,0,0,1) (3,1,0,0) (2,1,0,0) (3,2,1,0)", and then any steps
pub overtaken_input : List ℕ → List ℕ
overtaken_input more =
    0 ∷ 0 ∷ 0 ∷ 3 ∷ 0 ∷ 0 ∷ 0 ∷ 1
    ∷ 0 ∷ 0 ∷ 0 ∷ 1 ∷ 0 ∷ 0 ∷ 0 ∷ 0 ∷ 0 ∷ 0 ∷ 0 ∷ 0 ∷ 0 ∷ 0 ∷ 0 ∷ 1
    ∷ 0 ∷ 0 ∷ 0 ∷ 3 ∷ 0 ∷ 0 ∷ 0 ∷ 1 ∷ 0 ∷ 0 ∷ 0 ∷ 0 ∷ 0 ∷ 0 ∷ 0 ∷ 0
    ∷ 0 ∷ 0 ∷ 0 ∷ 2 ∷ 0 ∷ 0 ∷ 0 ∷ 1 ∷ 0 ∷ 0 ∷ 0 ∷ 0 ∷ 0 ∷ 0 ∷ 0 ∷ 0
    ∷ 0 ∷ 0 ∷ 0 ∷ 3 ∷ 0 ∷ 0 ∷ 0 ∷ 2 ∷ 0 ∷ 0 ∷ 0 ∷ 1 ∷ 0 ∷ 0 ∷ 0 ∷ 0 ∷ more

-- "0,0,1,1,0", "1,0,0,0,1", and card 2's line: its holders and whether it is quiet, each a digit
abbrev pub overtaken : ℕ → ℕ → List ℕ
overtaken holders quiet =
    header ++ 48 ∷ 44 ∷ 48 ∷ 44 ∷ 49 ∷ 44 ∷ 49 ∷ 44 ∷ 48 ∷ 13 ∷ 10 ∷ 49 ∷ 44 ∷ 48 ∷ 44 ∷ 48 ∷ 44 ∷ 48 ∷ 44 ∷ 49 ∷ 13 ∷ 10
    ∷ 50 ∷ 44 ∷ 48 ∷ 44 ∷ 48 ∷ 44 ∷ holders ∷ 44 ∷ quiet ∷ 13 ∷ 10 ∷ []

-- the value is 0 and a cancelled count is under way, "2,0,0,1,0"; after (3,2,0,0), "2,0,0,0,1"
pub quiet_column :
    (listing_of (overtaken_input []) ≡ overtaken 49 48)
    × (listing_of (overtaken_input (0 ∷ 0 ∷ 0 ∷ 3 ∷ 0 ∷ 0 ∷ 0 ∷ 2 ∷ 0 ∷ 0 ∷ 0 ∷ 0 ∷ 0 ∷ 0 ∷ 0 ∷ 0 ∷ [])) ≡ overtaken 48 49)
unfolding overtaken_input put sum bits incremented cleared count_message present_entries clear_message read_value read_holders cleared_words taken_words shown number_at bytes_of header_bytes increment_bytes entry_bytes entries_bytes clear_bytes message_bytes header_in_range amount_in_range increment_in_range clear_in_range entry_in_range entries_in_range unused in_range increment_message entries_at called_length message_at reads front_length form.clear_message fresh_words sizes_in_range right replica_fits all_below any_below bit with_bit count_below entry_well_formed card_well_formed row_well_formed tables_well_formed reading read_on send_with words_after count_on clear_on read_and_clear_on content all_entries cards_known increment_plausible entry_plausible plausible take_with part put_part waiting_part end_of made delivered action_of amount_fits call_of acted state_after answers_of fresh_replicas chassis_fits sizes_right run_on steps_at run_bytes_on digits line card_lines lines run_words input_right listing_of
quiet_column = (refl, refl)
