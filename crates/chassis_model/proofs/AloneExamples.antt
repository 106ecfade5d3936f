-- CLAIMS. Two counters of one chassis, computed on the definitions: which steps and calls are whose, and where the one does notice the other.
use Rattle.std.specs.Prelude.{ℕ, ◌*◌, ◌≡◌, refl, List, [], ◌∷◌, get_or, replicate}
use Rattle.std.proofs.Common.{ap, arith}
use Rattle.protocol.proofs.Tables.{put, sum, bits}
use Rattle.protocol.specs.Entry.{incremented, cleared}
use Rattle.protocol.specs.Chassis.{count_message, present_entries, clear_message, read_value, read_holders}
use Rattle.protocol.proofs.StoreLaws.{cleared_words, taken_words, shown}
use Rattle.protocol.specs.Functions.{bit, with_bit, any_below, all_below, count_below}
use Rattle.protocol.specs.Acceptance.{entry_well_formed, card_well_formed, all_entries, cards_known, increment_plausible, entry_plausible, plausible, tables_well_formed}
use Rattle.wire.specs.Number.{number_at, bytes_of}
use Rattle.wire.specs.declared.Message as wire
use Rattle.wire.specs.Message as form
use Rattle.wire.specs.Message.{version_2, header_bytes, increment_bytes, entry_bytes, entries_bytes, clear_bytes, message_bytes, header_in_range, increment_in_range, amount_in_range, clear_in_range, entry_in_range, entries_in_range, unused, in_range, increment_message, entries_at, called_length, message_at, reads, front_length}
use Rattle.replica_model.specs.Layout.{fresh_words}
use Rattle.replica_model.specs.Calls.{sizes_in_range, right, row_well_formed, reading, read_on, count_on, clear_on, read_and_clear_on, replica_fits, send_with, words_after, take_with}
use Rattle.replica_model.specs.Format.{content}
use Rattle.chassis_model.specs.ListParts.{part, put_part}
use Rattle.chassis_model.specs.Log.{waiting_part, end_of}
use Rattle.chassis_model.specs.Run as run
use Rattle.chassis_model.specs.Run.{Step, action_of, amount_fits, call_of, State, replica_of, log_of, delivered, acted, state_after, answers_of, fresh_replicas, count_kind, clear_kind, deliver_kind, read_and_clear_kind}
use Rattle.chassis_model.specs.Answers.{fresh_state}
use Rattle.chassis_model.specs.Driver as driver
use Rattle.chassis_model.specs.Driver.{Call, opened, wrote, sent, called, number_of, numbers}
use Rattle.chassis_model.specs.Alone.{of_counter, own_from, own_steps, own_values, own_calls_from, own_calls, replayed}

-- a count by 1; the others have no amount
abbrev pub count : ℕ → ℕ → Step
count i q = record { kind = count_kind; first = i; second = q; amount = 1 }

abbrev pub clear : ℕ → ℕ → Step
clear i q = record { kind = clear_kind; first = i; second = q; amount = 0 }

abbrev pub read_and_clear : ℕ → ℕ → Step
read_and_clear i q = record { kind = read_and_clear_kind; first = i; second = q; amount = 0 }

abbrev pub deliver : ℕ → ℕ → Step
deliver i s = record { kind = deliver_kind; first = i; second = s; amount = 0 }

-- a chassis of two cards and two counters, with logs of L zeros each
abbrev pub begins : ℕ → State
begins L = fresh_state 2 2 L (replicate (2 * L) 0)

abbrev pub answers : ℕ → List Step → List ℕ
answers L steps = answers_of 2 2 L steps (begins L)

abbrev pub own : ℕ → ℕ → List Step → List Step
own L q steps = own_steps 2 2 L q steps (replicate (2 * L) 0)

abbrev pub own_answered : ℕ → ℕ → List Step → List ℕ
own_answered L q steps = own_values 2 2 L q steps (replicate (2 * L) 0)

-- the value of counter q that card i reads after the steps
abbrev pub value_read : ℕ → List Step → ℕ → ℕ → ℕ
value_read L steps i q = (read_on (replica_of 2 2 L (state_after 2 2 L steps (begins L)) i) q).value

-- card 0's message number n, after the steps
abbrev pub logged : ℕ → List Step → ℕ → wire.Message
logged L steps n = message_at version_2 (waiting_part n (log_of 2 2 L (state_after 2 2 L steps (begins L)) 0))

-- ---- two counters on one link: which delivery is whose

-- Card 1 gets counter 0's message first. It clears counter 1 before counter 1's message comes, and reads and clears counter 0 after
-- its own has come, which answers 1. The last delivery is declined.
abbrev pub linked : List Step
linked = count 0 0 ∷ count 0 1 ∷ deliver 1 0 ∷ clear 1 1 ∷ deliver 1 0 ∷ read_and_clear 1 0 ∷ deliver 1 0 ∷ []

-- as if the first delivery were counter 1's
abbrev pub mistaken : List Step
mistaken = count 0 1 ∷ deliver 1 0 ∷ clear 1 1 ∷ []

pub own_of_linked :
    (answers 100 linked ≡ 0 ∷ 0 ∷ 0 ∷ 0 ∷ 0 ∷ 0 ∷ 0 ∷ 0 ∷ 0 ∷ 0 ∷ 0 ∷ 1 ∷ 13 ∷ 0 ∷ [])
    × (own 100 0 linked ≡ count 0 0 ∷ deliver 1 0 ∷ read_and_clear 1 0 ∷ []) × (own_answered 100 0 linked ≡ 0 ∷ 0 ∷ 1 ∷ [])
    × (answers 100 (own 100 0 linked) ≡ 0 ∷ 0 ∷ 0 ∷ 0 ∷ 0 ∷ 1 ∷ [])
    × (own 100 1 linked ≡ count 0 1 ∷ clear 1 1 ∷ deliver 1 0 ∷ [])
    × (own 100 2 linked ≡ [])
    -- it matters: alone, the right steps give card 1 its read of counter 1, and the mistaken ones do not
    × (own 100 1 linked ≡ mistaken → ⊥)
    × (value_read 100 linked 1 1 ≡ 1) × (value_read 100 (own 100 1 linked) 1 1 ≡ 1) × (value_read 100 mistaken 1 1 ≡ 0)
unfolding put sum bits incremented cleared count_message present_entries clear_message read_value read_holders cleared_words taken_words shown number_at bytes_of header_bytes increment_bytes entry_bytes entries_bytes clear_bytes message_bytes header_in_range increment_in_range amount_in_range clear_in_range entry_in_range entries_in_range unused in_range increment_message entries_at called_length message_at reads front_length form.clear_message fresh_words sizes_in_range right replica_fits all_below any_below bit with_bit count_below entry_well_formed card_well_formed row_well_formed tables_well_formed reading read_on send_with words_after count_on clear_on read_and_clear_on content all_entries cards_known increment_plausible entry_plausible plausible take_with part put_part waiting_part end_of action_of amount_fits call_of run.made delivered acted state_after answers_of fresh_replicas of_counter own_from
own_of_linked = (
  refl,
  refl,
  refl,
  refl,
  refl,
  refl,
  λ e. let kinds : clear_kind ≡ deliver_kind = ap (λ (steps : List Step). (get_or steps 1 (count 0 0)).kind) e in omega arith,
  refl,
  refl,
  refl,
)

-- ---- where one counter does notice another: in the room of the log, and in a message's numbers

-- one card counts on counter 0, then on counter 1
abbrev pub counting : List Step
counting = count 0 0 ∷ count 0 1 ∷ []

pub log_shared :
    -- 40 bytes hold one message. The second count is declined with 14, since the first one's message is there; alone it is accepted.
    (answers 40 counting ≡ 0 ∷ 0 ∷ 14 ∷ 0 ∷ []) × (answers 40 (count 0 1 ∷ []) ≡ 0 ∷ 0 ∷ [])
    -- So what a counter's steps are answered depends on other counters' messages, and own steps are the accepted ones: counter 1 has none here.
    × (own 40 0 counting ≡ count 0 0 ∷ []) × (own 40 1 counting ≡ [])
    -- Where both messages fit, the second has sequence 2 and p 2, since the card counts its messages and its units over all counters; alone it has 1 and 1. (So a
    -- card's sequences run out, with 4, for all its counters at once.)
    × (answers 80 counting ≡ 0 ∷ 0 ∷ 0 ∷ 0 ∷ [])
    × (logged 80 counting 2 ≡ increment_message version_2 0 2 1 2 1 1) × (logged 80 (own 80 1 counting) 1 ≡ increment_message version_2 0 1 1 1 1 1)
    -- The reads are the same.
    × (value_read 80 counting 0 1 ≡ 1) × (value_read 80 (own 80 1 counting) 0 1 ≡ 1)
unfolding put sum bits incremented cleared count_message present_entries clear_message read_value read_holders cleared_words taken_words shown number_at bytes_of header_bytes increment_bytes entry_bytes entries_bytes clear_bytes message_bytes header_in_range increment_in_range amount_in_range clear_in_range entry_in_range entries_in_range unused in_range increment_message entries_at called_length message_at reads front_length form.clear_message fresh_words sizes_in_range right replica_fits all_below any_below bit with_bit count_below entry_well_formed card_well_formed row_well_formed tables_well_formed reading read_on send_with words_after count_on clear_on read_and_clear_on content all_entries cards_known increment_plausible entry_plausible plausible take_with part put_part waiting_part end_of action_of amount_fits call_of run.made delivered acted state_after answers_of fresh_replicas of_counter own_from
log_shared = (refl, refl, refl, refl, refl, refl, refl, refl, refl)

-- ---- a driver's calls

abbrev pub buffer : List ℕ
buffer = replicate 40 9

-- card 0's first message of the history below, on counter 0, and its second, on counter 1
abbrev pub first : List ℕ
first = message_bytes (increment_message version_2 0 1 0 1 1 1)

abbrev pub second : List ℕ
second = message_bytes (increment_message version_2 0 2 1 2 1 1)

-- card 1 takes the messages out of order, and the first twice: the second answers 9 before the first, and the first answers 8 the second time
abbrev pub history : List Call
history = driver.count 0 0 1 buffer ∷ driver.count 0 1 1 buffer ∷ driver.take 1 second ∷ driver.take 1 first ∷ driver.take 1 first ∷ driver.take 1 second ∷ []

pub own_of_history :
    (numbers history (opened 2 2) ≡ 0 ∷ 0 ∷ 9 ∷ 0 ∷ 8 ∷ 0 ∷ [])
    × (own_calls 2 2 0 history ≡ driver.count 0 0 1 buffer ∷ driver.take 1 first ∷ [])
    × (own_calls 2 2 1 history ≡ driver.count 0 1 1 buffer ∷ driver.take 1 second ∷ [])
    -- alone, counter 1's message has other bytes: it is card 0's first
    × (replayed 2 (own_calls 2 2 1 history) (opened 2 2) ≡ driver.count 0 1 1 buffer ∷ driver.take 1 (message_bytes (increment_message version_2 0 1 1 1 1 1)) ∷ [])
unfolding put sum bits incremented cleared count_message present_entries clear_message read_value read_holders cleared_words taken_words shown number_at bytes_of header_bytes increment_bytes entry_bytes entries_bytes clear_bytes message_bytes header_in_range increment_in_range amount_in_range clear_in_range entry_in_range entries_in_range unused in_range increment_message entries_at called_length message_at reads front_length form.clear_message fresh_words sizes_in_range right replica_fits all_below any_below bit with_bit count_below entry_well_formed card_well_formed row_well_formed tables_well_formed reading read_on send_with words_after count_on clear_on read_and_clear_on content all_entries cards_known increment_plausible entry_plausible plausible take_with call_of wrote sent called number_of numbers own_calls_from replayed
own_of_history = (refl, refl, refl, refl)
