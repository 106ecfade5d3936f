-- CLAIMS. Two of a driver's histories, computed on the definitions: one over a bad network, and one with a forged message.
use Rattle.std.specs.Prelude.{ℕ, ◌≡◌, refl, List, [], ◌∷◌, length, replicate}
use Rattle.std.proofs.Common.{arith, inl, inr}
use Rattle.protocol.proofs.Tables.{put, sum, bits}
use Rattle.protocol.specs.Entry.{incremented, cleared}
use Rattle.protocol.specs.Names.{has, insert, join, names_after, tally, any, latest, beyond}
use Rattle.protocol.specs.Ledger as ledger
use Rattle.protocol.specs.Ledger.{applied, made, next_item, rest_items, handed, count_item, holds, clear_names, after_accepted, after_step, after_steps, ledger_value, ledger_holders}
use Rattle.protocol.specs.Chassis.{count_message, present_entries, clear_message, read_value, read_holders}
use Rattle.protocol.proofs.StoreLaws.{cleared_words, taken_words, shown}
use Rattle.protocol.specs.Functions.{bit, with_bit, any_below, all_below, count_below}
use Rattle.protocol.specs.Acceptance.{entry_well_formed, card_well_formed, all_entries, cards_known, increment_plausible, entry_plausible, plausible, tables_well_formed}
use Rattle.wire.specs.Number.{number_at, bytes_of}
use Rattle.wire.specs.Message as form
use Rattle.wire.specs.Message.{header_bytes, increment_bytes, entry_bytes, entries_bytes, clear_bytes, message_bytes, header_in_range, increment_in_range, amount_in_range, clear_in_range, entry_in_range, entries_in_range, unused, in_range, increment_message, entries_at, called_length, message_at, reads}
use Rattle.replica_model.specs.Layout.{fresh_words}
use Rattle.replica_model.specs.declared.Reading.{Reading}
use Rattle.replica_model.specs.Calls.{sizes_in_range, right, row_well_formed, reading, read_on, count_on, clear_on, replica_fits, send_with, words_after, take_with}
use Rattle.replica_model.specs.Format.{content}
use Rattle.chassis_model.specs.Ledger.{ledger_action, ledger_reading}
use Rattle.chassis_model.specs.Run.{call_of}
use Rattle.chassis_model.specs.Driver.{Call, count, clear, take, opened, wrote, sent, called, number_of, after, numbers, cards_after, GenuineHistory, history_ledger}

-- "Card 0's first increment on counter 0, in hexadecimal: 00000002 00000001 00000000 0000000000000001 00000000 0000000000000001 00000001 00000001"
abbrev pub first : List ℕ
first =
    0 ∷ 0 ∷ 0 ∷ 2 ∷ 0 ∷ 0 ∷ 0 ∷ 1 ∷ 0 ∷ 0 ∷ 0 ∷ 0 ∷ 0 ∷ 0 ∷ 0 ∷ 0 ∷ 0 ∷ 0 ∷ 0 ∷ 1 ∷ 0 ∷ 0 ∷ 0 ∷ 0 ∷ 0 ∷ 0 ∷ 0 ∷ 0 ∷ 0 ∷ 0 ∷ 0 ∷ 1 ∷ 0 ∷ 0 ∷ 0 ∷ 1 ∷ 0 ∷ 0 ∷ 0 ∷ 1 ∷ []

-- its second: sequence 2, p 2, no start
abbrev pub second : List ℕ
second =
    0 ∷ 0 ∷ 0 ∷ 2 ∷ 0 ∷ 0 ∷ 0 ∷ 1 ∷ 0 ∷ 0 ∷ 0 ∷ 0 ∷ 0 ∷ 0 ∷ 0 ∷ 0 ∷ 0 ∷ 0 ∷ 0 ∷ 2 ∷ 0 ∷ 0 ∷ 0 ∷ 0 ∷ 0 ∷ 0 ∷ 0 ∷ 0 ∷ 0 ∷ 0 ∷ 0 ∷ 2 ∷ 0 ∷ 0 ∷ 0 ∷ 0 ∷ 0 ∷ 0 ∷ 0 ∷ 1 ∷ []

-- a message of card 0 that nobody has written: sequence 7
abbrev pub stray : List ℕ
stray =
    0 ∷ 0 ∷ 0 ∷ 2 ∷ 0 ∷ 0 ∷ 0 ∷ 1 ∷ 0 ∷ 0 ∷ 0 ∷ 0 ∷ 0 ∷ 0 ∷ 0 ∷ 0 ∷ 0 ∷ 0 ∷ 0 ∷ 7 ∷ 0 ∷ 0 ∷ 0 ∷ 0 ∷ 0 ∷ 0 ∷ 0 ∷ 0 ∷ 0 ∷ 0 ∷ 0 ∷ 2 ∷ 0 ∷ 0 ∷ 0 ∷ 0 ∷ 0 ∷ 0 ∷ 0 ∷ 1 ∷ []

-- Two cards, one counter. Card 0 counts twice; its messages come to card 1 out of order, damaged, twice, with a stray one, and back to card 0; card 1 clears into
-- too short an output and into one that is long enough, and the clear is lost; then counter 1 and card 2, which are not there.
abbrev pub history : List Call
history =
    count 0 0 1 (replicate 44 9) ∷ count 0 0 1 (replicate 40 9)
    ∷ take 1 second ∷ take 1 (7 ∷ []) ∷ take 1 first ∷ take 1 first ∷ take 0 first ∷ take 1 stray ∷ take 1 second
    ∷ clear 1 0 (replicate 47 9) ∷ clear 1 0 (replicate 48 9) ∷ count 0 1 1 (replicate 40 9) ∷ count 2 0 1 (replicate 40 9) ∷ []

-- card 0's first message, before card 0 has written it
abbrev pub forged : List Call
forged = take 1 first ∷ []

abbrev pub reading_of : ℕ → ℕ → ℕ → Reading
reading_of value holders many = record { number = 0; value = value; holders = holders; holder_count = many }

pub examples_hold :
    (numbers history (opened 2 1) ≡ 0 ∷ 0 ∷ 9 ∷ 6 ∷ 0 ∷ 8 ∷ 7 ∷ 9 ∷ 0 ∷ 5 ∷ 0 ∷ 3 ∷ 1 ∷ [])
    × GenuineHistory 2 1 history
    -- card 0, which the clear has not reached, reads 2; card 1 reads 0: the words say so, and the ledger
    × (read_on ((cards_after 2 1 history).words 0) 0 ≡ reading_of 2 1 1) × (ledger_reading 2 0 (history_ledger 2 1 history 0) ≡ reading_of 2 1 1)
    × (read_on ((cards_after 2 1 history).words 1) 0 ≡ reading_of 0 0 0) × (ledger_reading 2 1 (history_ledger 2 1 history 0) ≡ reading_of 0 0 0)
    -- what was refused for want of room is no message: card 0 has written two, card 1 its one clear
    × (length ((cards_after 2 1 history).written 0) ≡ 2) × (length ((cards_after 2 1 history).written 1) ≡ 1)
    -- why a history has to be genuine: the forged message is accepted, and no ledger knows of it
    × (GenuineHistory 2 1 forged → ⊥) × (numbers forged (opened 2 1) ≡ 0 ∷ [])
    × (read_on ((cards_after 2 1 forged).words 1) 0 ≡ reading_of 1 1 1) × (ledger_reading 2 1 (history_ledger 2 1 forged 0) ≡ reading_of 0 0 0)
unfolding put sum bits incremented cleared has insert join names_after tally any latest beyond applied ledger.sent made next_item rest_items handed count_item holds clear_names after_accepted after_step after_steps ledger_value ledger_holders count_message present_entries clear_message read_value read_holders cleared_words taken_words shown number_at bytes_of header_bytes increment_bytes entry_bytes entries_bytes clear_bytes message_bytes header_in_range increment_in_range amount_in_range clear_in_range entry_in_range entries_in_range unused in_range increment_message entries_at called_length message_at reads form.clear_message fresh_words sizes_in_range right replica_fits all_below any_below bit with_bit count_below entry_well_formed card_well_formed row_well_formed tables_well_formed reading read_on send_with words_after count_on clear_on content all_entries cards_known increment_plausible entry_plausible plausible take_with ledger_action ledger_reading call_of wrote sent called number_of after numbers
examples_hold = (
  refl,
  (tt, (tt, (λ _. inr (inl refl), (λ g. absurd (omega (arith, g)), (λ _. inl refl, (λ _. inl refl, (λ _. inl refl, (λ g. absurd (omega (arith, g)), (λ _. inr (inl refl), (tt, (tt, (tt, (tt, tt))))))))))))),
  refl,
  refl,
  refl,
  refl,
  refl,
  refl,
  λ g. g.0 refl,
  refl,
  refl,
  refl,
)
