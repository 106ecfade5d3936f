-- CLAIMS. What is quiet, what only looks so and what is active, computed on a run's words and on the ledger that it is fed: three cards and one counter.
use Rattle.std.specs.Prelude.{ℕ, ◌*◌, ◌≡◌, refl, List, [], ◌∷◌, ◌++◌, true, false, replicate}
use Rattle.std.proofs.Common.{inl, arith}
use Rattle.std.proofs.lemmas.Bool.{false≢true}
use Rattle.protocol.proofs.Tables.{put, sum, bits}
use Rattle.protocol.specs.Entry.{incremented, cleared}
use Rattle.protocol.specs.Names.{name, has, insert, join, names_after, any, latest, beyond}
use Rattle.protocol.specs.Ledger.{Ledger, applied, sent, made, next_item, rest_items, handed, count_item, holds, clear_names, after_accepted, after_step, after_steps}
use Rattle.protocol.specs.Quiet.{EqualSets, StillToReceive, CancelledAhead}
use Rattle.protocol.specs.Chassis.{count_message, present_entries, clear_message, read_value, read_holders}
use Rattle.protocol.proofs.StoreLaws.{cleared_words, taken_words, shown}
use Rattle.protocol.specs.Functions.{bit, with_bit, any_below, all_below, count_below}
use Rattle.protocol.specs.Acceptance.{entry_well_formed, card_well_formed, all_entries, cards_known, increment_plausible, entry_plausible, plausible, tables_well_formed}
use Rattle.wire.specs.Number.{number_at, bytes_of}
use Rattle.wire.specs.Message as form
use Rattle.wire.specs.Message.{header_bytes, increment_bytes, entry_bytes, entries_bytes, clear_bytes, message_bytes, header_in_range, increment_in_range, amount_in_range, clear_in_range, entry_in_range, entries_in_range, unused, in_range, increment_message, entries_at, called_length, message_at, reads, front_length}
use Rattle.replica_model.specs.Layout.{fresh_words}
use Rattle.replica_model.specs.declared.Reading.{Reading}
use Rattle.replica_model.specs.declared.Active.{Active}
use Rattle.replica_model.specs.Calls.{sizes_in_range, right, row_well_formed, reading, is_quiet, read_on, active_on, count_on, clear_on, replica_fits, send_with, words_after, take_with}
use Rattle.replica_model.specs.Format.{content}
use Rattle.chassis_model.specs.ListParts.{part, put_part}
use Rattle.chassis_model.specs.Log.{waiting_part, end_of}
use Rattle.chassis_model.specs.Run as run
use Rattle.chassis_model.specs.Run.{Step, action_of, amount_fits, call_of, State, replica_of, delivered, acted, state_after, answers_of, numbers_in, fresh_replicas}
use Rattle.chassis_model.specs.Ledger.{ledger_action, ledger_of}
use Rattle.chassis_model.specs.Answers.{fresh_state}
use Rattle.chassis_model.specs.ActiveOf.{ledger_active}
use Rattle.chassis_model.proofs.AloneExamples.{count, clear, deliver}

-- the longest log takes 88 bytes
abbrev L : ℕ
L = 88

abbrev begins : State
begins = fresh_state 3 1 L (replicate (3 * L) 0)

-- what card 2 reads after the steps, and the counter's ledger
abbrev pub read_there : List Step → Reading
read_there steps = read_on (replica_of 3 1 L (state_after 3 1 L steps begins) 2) 0

abbrev pub ledger : List Step → Ledger
ledger steps = ledger_of 3 0 steps (answers_of 3 1 L steps begins)

-- the counters that are active there, as the call answers and as the ledgers have it
abbrev pub active_there : List Step → Active
active_there steps = active_on (replica_of 3 1 L (state_after 3 1 L steps begins) 2)

abbrev pub held_there : List Step → ℕ
held_there steps = ledger_active 3 1 2 (λ q. ledger_of 3 q steps (answers_of 3 1 L steps begins))

abbrev answered : ℕ → Active
answered counters = record { number = 0; counters = counters }

abbrev read_of : ℕ → ℕ → ℕ → Reading
read_of value holders count = record { number = 0; value = value; holders = holders; holder_count = count }

-- "r = 3: (1,0,0,1) (3,1,0,0) (2,1,0,0) (3,2,1,0)": card 1 clears card 0's count, and the clear comes to card 2 first
abbrev pub overtaken : List Step
overtaken = count 0 0 ∷ deliver 1 0 ∷ clear 1 0 ∷ deliver 2 1 ∷ []

-- before that, card 0 has counted, and nothing has come to card 2
abbrev pub counted : List Step
counted = count 0 0 ∷ []

-- then the count comes too; or a count of card 1's comes, and card 0's is still under way
abbrev pub arrived : List Step
arrived = overtaken ++ deliver 2 0 ∷ []

abbrev pub as_many : List Step
as_many = overtaken ++ count 1 0 ∷ deliver 2 1 ∷ []

pub what_is_read :
    -- a count is under way and not cancelled: quiet all the same; when it has come, not
    (read_there counted ≡ read_of 0 0 0) × (is_quiet (read_there counted) ≡ true)
    × (read_there (counted ++ deliver 2 0 ∷ []) ≡ read_of 1 1 1) × (is_quiet (read_there (counted ++ deliver 2 0 ∷ [])) ≡ false)
    -- the value is 0 and card 0's cancelled count has still to come: not quiet
    × (read_there overtaken ≡ read_of 0 1 1) × (is_quiet (read_there overtaken) ≡ false)
    -- it has come: quiet
    × (read_there arrived ≡ read_of 0 0 0) × (is_quiet (read_there arrived) ≡ true)
    -- one received, another cancelled: not quiet
    × (read_there as_many ≡ read_of 1 3 2) × (is_quiet (read_there as_many) ≡ false)
unfolding put sum bits incremented cleared has insert join names_after any latest beyond applied sent made next_item rest_items handed count_item holds clear_names after_accepted after_step after_steps count_message present_entries clear_message read_value read_holders cleared_words taken_words shown number_at bytes_of header_bytes increment_bytes entry_bytes entries_bytes clear_bytes message_bytes header_in_range increment_in_range amount_in_range clear_in_range entry_in_range entries_in_range unused in_range increment_message entries_at called_length message_at reads front_length form.clear_message fresh_words sizes_in_range right replica_fits all_below any_below bit with_bit count_below entry_well_formed card_well_formed row_well_formed tables_well_formed reading read_on send_with words_after count_on clear_on content all_entries cards_known increment_plausible entry_plausible plausible take_with part put_part waiting_part end_of action_of amount_fits call_of run.made delivered acted state_after answers_of numbers_in fresh_replicas ledger_action ledger_of
what_is_read = (refl, refl, refl, refl, refl, refl, refl, refl, refl, refl)

pub what_is_active :
    -- a count is under way and not cancelled: bit 0 is zero; when it has come, one
    (active_there counted ≡ answered 0) × (held_there counted ≡ 0)
    × (active_there (counted ++ deliver 2 0 ∷ []) ≡ answered 1) × (held_there (counted ++ deliver 2 0 ∷ []) ≡ 1)
    -- the value is 0 and card 0's cancelled count has still to come: one
    × ((read_there overtaken).value ≡ 0) × (active_there overtaken ≡ answered 1) × (held_there overtaken ≡ 1)
    -- it has come: zero
    × (active_there arrived ≡ answered 0) × (held_there arrived ≡ 0)
    -- one received, another cancelled: one
    × (active_there as_many ≡ answered 1) × (held_there as_many ≡ 1)
unfolding put sum bits incremented cleared has insert join names_after any latest beyond applied sent made next_item rest_items handed count_item holds clear_names after_accepted after_step after_steps count_message present_entries clear_message read_value read_holders cleared_words taken_words shown number_at bytes_of header_bytes increment_bytes entry_bytes entries_bytes clear_bytes message_bytes header_in_range increment_in_range amount_in_range clear_in_range entry_in_range entries_in_range unused in_range increment_message entries_at called_length message_at reads front_length form.clear_message fresh_words sizes_in_range right replica_fits all_below any_below bit with_bit count_below entry_well_formed card_well_formed row_well_formed tables_well_formed reading read_on active_on send_with words_after count_on clear_on content all_entries cards_known increment_plausible entry_plausible plausible take_with part put_part waiting_part end_of action_of amount_fits call_of run.made delivered acted state_after answers_of numbers_in fresh_replicas ledger_action ledger_of ledger_active
what_is_active = (refl, refl, refl, refl, refl, refl, refl, refl, refl, refl, refl)

pub what_the_sets_are :
    StillToReceive 2 (ledger counted) (name 0 1) × EqualSets 2 (ledger counted)
    × ((ledger overtaken).received 2 ≡ []) × ((ledger overtaken).cancelled 2 ≡ name 0 1 ∷ []) × CancelledAhead 2 (ledger overtaken)
    × ((ledger arrived).received 2 ≡ name 0 1 ∷ []) × ((ledger arrived).cancelled 2 ≡ name 0 1 ∷ []) × EqualSets 2 (ledger arrived)
    -- as many names in one set as in the other, and the sets are not equal
    × ((ledger as_many).received 2 ≡ name 1 1 ∷ []) × ((ledger as_many).cancelled 2 ≡ name 0 1 ∷ []) × (EqualSets 2 (ledger as_many) → ⊥)
unfolding put sum bits incremented cleared has insert join names_after any latest beyond applied sent made next_item rest_items handed count_item holds clear_names after_accepted after_step after_steps count_message present_entries clear_message read_value read_holders cleared_words taken_words shown number_at bytes_of header_bytes increment_bytes entry_bytes entries_bytes clear_bytes message_bytes header_in_range increment_in_range amount_in_range clear_in_range entry_in_range entries_in_range unused in_range increment_message entries_at called_length message_at reads front_length form.clear_message fresh_words sizes_in_range right replica_fits all_below any_below bit with_bit count_below entry_well_formed card_well_formed row_well_formed tables_well_formed reading read_on send_with words_after count_on clear_on content all_entries cards_known increment_plausible entry_plausible plausible take_with part put_part waiting_part end_of action_of amount_fits call_of run.made delivered acted state_after answers_of numbers_in fresh_replicas ledger_action ledger_of
what_the_sets_are = (
  record { sender = 0; another = λ e. omega arith; on_link = inl refl },
  λ n. (λ h. h, λ h. h),
  refl,
  refl,
  record { increment = name 0 1; under_way = record { sender = 0; another = λ e. omega arith; on_link = inl refl }; cancelled = refl },
  refl,
  refl,
  λ n. (λ h. h, λ h. h),
  refl,
  refl,
  λ same. false≢true ((same (name 0 1)).1 refl),
)
