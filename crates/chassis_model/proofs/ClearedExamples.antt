-- CLAIMS. What a clear takes, on a small history of calls, computed on the definitions: the count that its card had seen, and not the one that it had not.
use Rattle.std.specs.Prelude.{ℕ, zero, suc, ◌≡◌, refl, true, false, List, [], ◌∷◌, ◌++◌, get_or, replicate}
use Rattle.std.proofs.Common.{sym, ◌∙◌, inl, inr, arith, ne_eqb}
use Rattle.std.proofs.lemmas.Bool.{false≢true}
use Rattle.protocol.proofs.Tables.{put, sum}
use Rattle.protocol.specs.Entry.{incremented, cleared}
use Rattle.protocol.specs.Names.{name, has, insert, join, names_after, any, latest, beyond}
use Rattle.protocol.specs.Ledger as ledger
use Rattle.protocol.specs.Ledger.{applied, made, next_item, rest_items, handed, count_item, holds, clear_names, after_accepted, after_step, after_steps}
use Rattle.protocol.specs.Chassis.{count_message, present_entries, clear_message, read_value}
use Rattle.protocol.proofs.StoreLaws.{cleared_words, taken_words, shown}
use Rattle.protocol.specs.Functions.{bit, with_bit, any_below, all_below}
use Rattle.protocol.specs.Acceptance.{entry_well_formed, card_well_formed, all_entries, cards_known, increment_plausible, entry_plausible, plausible, tables_well_formed}
use Rattle.wire.specs.Number.{number_at, bytes_of}
use Rattle.wire.specs.Message as form
use Rattle.wire.specs.Message.{header_bytes, increment_bytes, entry_bytes, entries_bytes, clear_bytes, message_bytes, header_in_range, increment_in_range, amount_in_range, clear_in_range, entry_in_range, entries_in_range, unused, in_range, increment_message, entries_at, called_length, message_at, reads}
use Rattle.replica_model.specs.Layout.{fresh_words}
use Rattle.replica_model.specs.Calls.{sizes_in_range, right, row_well_formed, reading, read_on, count_on, clear_on, replica_fits, send_with, words_after, take_with}
use Rattle.replica_model.specs.Format.{content}
use Rattle.chassis_model.specs.Run.{call_of}
use Rattle.chassis_model.specs.Ledger.{ledger_action}
use Rattle.chassis_model.specs.Driver.{Call, count, clear, take, opened, wrote, sent, called, number_of, after, numbers, cards_after, GenuineHistory, history_ledger}
use Rattle.chassis_model.proofs.DriverExamples.{first, second}
use Rattle.chassis_model.specs.Cleared.{ClearedBySeer}
use Rattle.chassis_model.proofs.ClearClaims.{cleared_is_cancelled}

abbrev pub buffer : List ℕ
buffer = replicate 48 9

-- Two cards, one counter: card 0 counts twice, and card 1 clears when it has seen the first count only.
abbrev pub history : List Call
history = count 0 0 1 buffer ∷ take 1 first ∷ count 0 0 1 buffer ∷ clear 1 0 buffer ∷ []

-- the clear, as card 1 wrote it
abbrev pub clearing : List ℕ
clearing = get_or ((cards_after 2 1 history).written 1) 0 []

-- then each card takes what waits
abbrev pub exchanged : List Call
exchanged = history ++ take 0 clearing ∷ take 1 second ∷ []

-- the value that card i reads after the calls
abbrev pub value_read : List Call → ℕ → ℕ
value_read calls i = (read_on ((cards_after 2 1 calls).words i) 0).value

pub unseen_stays :
    (sizes_in_range 2 1 ≡ true)
    × (numbers exchanged (opened 2 1) ≡ 0 ∷ 0 ∷ 0 ∷ 0 ∷ 0 ∷ 0 ∷ [])
    × GenuineHistory 2 1 exchanged
    -- card 1 has cleared and reads 0; card 0, which the clear has not reached, reads both counts
    × (value_read history 1 ≡ 0) × (value_read history 0 ≡ 2)
    -- in the end both read the second
    × (value_read exchanged 0 ≡ 1) × (value_read exchanged 1 ≡ 1)
    -- and the first was cleared by a card that had received it
    × ClearedBySeer 2 1 0 exchanged (name 0 1)
unfolding put sum incremented cleared has insert join names_after latest applied ledger.sent made next_item handed count_item after_accepted after_step after_steps count_message present_entries clear_message read_value cleared_words taken_words shown number_at bytes_of header_bytes increment_bytes entry_bytes entries_bytes clear_bytes message_bytes header_in_range increment_in_range amount_in_range clear_in_range entry_in_range entries_in_range unused in_range increment_message entries_at called_length message_at reads form.clear_message fresh_words sizes_in_range right replica_fits all_below any_below bit with_bit entry_well_formed card_well_formed row_well_formed tables_well_formed reading read_on send_with words_after count_on clear_on content all_entries cards_known increment_plausible entry_plausible plausible take_with ledger_action call_of wrote sent called number_of after numbers
unseen_stays = (
  refl,
  refl,
  (tt, (λ _. inl refl, (tt, (tt, (λ _. inl refl, (λ _. inr (inl refl), tt)))))),
  refl,
  refl,
  refl,
  refl,
  record {
    before = count 0 0 1 buffer ∷ take 1 first ∷ count 0 0 1 buffer ∷ [];
    call = clear 1 0 buffer;
    card = 1;
    later = take 0 clearing ∷ take 1 second ∷ [];
    in_list = refl;
    is_clear = refl;
    was_accepted = refl;
    had_received = refl;
  },
)

-- the second is cancelled on no card
nowhere : (i : ℕ) → has ((history_ledger 2 1 exchanged 0).cancelled i) (name 0 2) ≡ false
unfolding put incremented cleared has insert join names_after any latest beyond applied ledger.sent made next_item rest_items handed count_item holds clear_names after_accepted after_step after_steps count_message present_entries clear_message cleared_words taken_words shown number_at bytes_of header_bytes entry_bytes entries_bytes clear_bytes message_bytes header_in_range increment_in_range amount_in_range clear_in_range entry_in_range entries_in_range unused in_range increment_message entries_at called_length message_at reads form.clear_message fresh_words sizes_in_range right replica_fits all_below any_below bit with_bit entry_well_formed card_well_formed row_well_formed tables_well_formed send_with words_after count_on clear_on content all_entries cards_known increment_plausible entry_plausible plausible take_with ledger_action call_of wrote sent called number_of after numbers
nowhere zero = refl
nowhere (suc zero) = refl
nowhere (suc (suc i)) = rw (ne_eqb (suc (suc i)) 0 (λ e. omega arith), ne_eqb (suc (suc i)) 1 (λ e. omega arith))

-- so none that cleared had received it
pub second_was_not : ClearedBySeer 2 1 0 exchanged (name 0 2) → ⊥
second_was_not w = false≢true (sym (nowhere w.card) ∙ cleared_is_cancelled 2 1 unseen_stays.0 exchanged unseen_stays.2 0 (name 0 2) w)
