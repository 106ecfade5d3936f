-- CLAIMS. Calls of deliver pending, computed: after a run of two cards and one counter, with each b; on words and logs that no run left, where take declines a
-- message; one call for each refusal; and the limit of cards, of a run too.
use Rattle.std.specs.Prelude.{ℕ, ◌*◌, ◌≡◌, refl, List, [], ◌∷◌, ◌++◌, set, replicate, take}
use Rattle.protocol.proofs.Tables.{put, sum}
use Rattle.protocol.specs.Entry.{incremented, cleared}
use Rattle.protocol.specs.Chassis.{count_message, present_entries}
use Rattle.protocol.proofs.StoreLaws.{cleared_words, taken_words, shown}
use Rattle.protocol.specs.Functions.{bit, with_bit, any_below, all_below}
use Rattle.protocol.specs.Acceptance.{entry_well_formed, card_well_formed, all_entries, cards_known, increment_plausible, entry_plausible, plausible, tables_well_formed}
use Rattle.protocol.specs.RoundRobin.{tried, turn, senders, receivers, rounds, deliver_pending, total_waiting}
use Rattle.wire.specs.Number.{number_at, bytes_of}
use Rattle.wire.specs.Message.{version_2, header_bytes, increment_bytes, entries_bytes, clear_bytes, message_bytes, header_in_range, increment_in_range, amount_in_range, clear_in_range, entries_in_range, unused, in_range, increment_message, clear_message, entries_at, called_length, message_at, reads, front_length}
use Rattle.replica_model.specs.Layout.{fresh_words}
use Rattle.replica_model.specs.Calls.{sizes_in_range, right, row_well_formed, count_on, replica_fits, send_with, words_after, take_with}
use Rattle.replica_model.specs.Format.{content}
use Rattle.chassis_model.specs.ListParts.{part, put_part}
use Rattle.chassis_model.specs.Log.{waiting_part, end_of}
use Rattle.chassis_model.specs.Run as run
use Rattle.chassis_model.specs.Run.{action_of, amount_fits, call_of, State, state_of, delivered, acted, state_after, answers_of, fresh_replicas, chassis_fits, sizes_right, run_on}
use Rattle.chassis_model.specs.Answers.{fresh_state}
use Rattle.chassis_model.specs.Pending.{is_numbered, begins_with, log_right, all_waiting, DeliverOutcome, none_delivered, deliver_pending_on}
use Rattle.chassis_model.proofs.AloneExamples.{count}

abbrev done : ℕ → List ℕ → DeliverOutcome
done deliveries words = record { answer = record { number = 0; deliveries = deliveries }; words = words }

-- ---- after a run: card 0 has counted twice, card 1 once, and nothing was delivered

abbrev pub counted : State
counted = state_after 2 1 80 (count 0 0 ∷ count 0 0 ∷ count 1 0 ∷ []) (fresh_state 2 1 80 (replicate (2 * 80) 0))

-- Each card's words: r, k, own | active counters | C | N | the entries of card 0 and card 1. First card 0 gets card 1's count, then card 1 card 0's first, and in the second round
-- card 1 card 0's second.
pub after_a_run :
    (counted.words ≡ (2 ∷ 1 ∷ 0 ∷ 1 ∷ 2 ∷ 0 ∷ 2 ∷ 0 ∷ 2 ∷ 0 ∷ 2 ∷ 0 ∷ 0 ∷ 0 ∷ []) ++ (2 ∷ 1 ∷ 1 ∷ 1 ∷ 0 ∷ 1 ∷ 0 ∷ 1 ∷ 0 ∷ 0 ∷ 0 ∷ 1 ∷ 0 ∷ 1 ∷ []))
    × (all_waiting 2 1 80 counted ≡ 3)
    × (deliver_pending_on 2 1 80 0 counted.words counted.logs ≡ done 0 counted.words)
    × (deliver_pending_on 2 1 80 1 counted.words counted.logs
    ≡ done 1 ((2 ∷ 1 ∷ 0 ∷ 1 ∷ 2 ∷ 1 ∷ 2 ∷ 1 ∷ 2 ∷ 0 ∷ 2 ∷ 1 ∷ 0 ∷ 1 ∷ []) ++ (2 ∷ 1 ∷ 1 ∷ 1 ∷ 0 ∷ 1 ∷ 0 ∷ 1 ∷ 0 ∷ 0 ∷ 0 ∷ 1 ∷ 0 ∷ 1 ∷ [])))
    × (deliver_pending_on 2 1 80 2 counted.words counted.logs
    ≡ done 2 ((2 ∷ 1 ∷ 0 ∷ 1 ∷ 2 ∷ 1 ∷ 2 ∷ 1 ∷ 2 ∷ 0 ∷ 2 ∷ 1 ∷ 0 ∷ 1 ∷ []) ++ (2 ∷ 1 ∷ 1 ∷ 1 ∷ 1 ∷ 1 ∷ 1 ∷ 1 ∷ 1 ∷ 0 ∷ 1 ∷ 1 ∷ 0 ∷ 1 ∷ [])))
    × (deliver_pending_on 2 1 80 9 counted.words counted.logs
    ≡ done 3 ((2 ∷ 1 ∷ 0 ∷ 1 ∷ 2 ∷ 1 ∷ 2 ∷ 1 ∷ 2 ∷ 0 ∷ 2 ∷ 1 ∷ 0 ∷ 1 ∷ []) ++ (2 ∷ 1 ∷ 1 ∷ 1 ∷ 2 ∷ 1 ∷ 2 ∷ 1 ∷ 2 ∷ 0 ∷ 2 ∷ 1 ∷ 0 ∷ 1 ∷ [])))
unfolding put sum incremented cleared count_message present_entries cleared_words taken_words shown number_at bytes_of header_bytes increment_bytes message_bytes header_in_range increment_in_range amount_in_range entries_in_range unused in_range increment_message entries_at called_length message_at reads front_length fresh_words sizes_in_range right replica_fits all_below any_below bit with_bit entry_well_formed card_well_formed row_well_formed tables_well_formed send_with words_after count_on content all_entries cards_known increment_plausible plausible take_with part put_part waiting_part end_of action_of amount_fits call_of run.made delivered acted state_after fresh_replicas chassis_fits is_numbered begins_with log_right deliver_pending_on tried turn senders receivers rounds deliver_pending total_waiting
after_a_run = (refl, refl, refl, refl, refl, refl)

-- ---- no run left these: card 0's first message clears counter 1, and there is none

-- Two clears of card 0 and one of card 1 wait. Card 1 declines card 0's first with 3, so the link is passed over, with both messages waiting.
abbrev pub odd_words : List ℕ
odd_words = (2 ∷ 1 ∷ 0 ∷ 0 ∷ 0 ∷ 0 ∷ 2 ∷ 0 ∷ replicate 6 0) ++ (2 ∷ 1 ∷ 1 ∷ 0 ∷ 0 ∷ 0 ∷ 0 ∷ 1 ∷ replicate 6 0)

abbrev pub odd_logs : List ℕ
odd_logs = message_bytes (clear_message version_2 0 1 1 []) ++ message_bytes (clear_message version_2 0 2 0 []) ++ message_bytes (clear_message version_2 1 1 0 []) ++ replicate 28 7

pub passed_over :
    (all_waiting 2 1 56 (state_of odd_words odd_logs) ≡ 3)
    × (deliver_pending_on 2 1 56 9 odd_words odd_logs ≡ done 1 (set odd_words 7 1))
    × (all_waiting 2 1 56 (state_of (set odd_words 7 1) odd_logs) ≡ 2)
    × (deliver_pending_on 2 1 56 9 (set odd_words 7 1) odd_logs ≡ done 0 (set odd_words 7 1))
unfolding sum incremented cleared present_entries cleared_words taken_words shown number_at bytes_of header_bytes entries_bytes clear_bytes message_bytes header_in_range clear_in_range entries_in_range unused in_range increment_message entries_at called_length message_at reads front_length clear_message sizes_in_range right replica_fits all_below any_below bit with_bit entry_well_formed card_well_formed row_well_formed tables_well_formed words_after content all_entries cards_known entry_plausible plausible take_with part put_part waiting_part delivered chassis_fits is_numbered begins_with log_right deliver_pending_on tried turn senders receivers rounds deliver_pending total_waiting put
passed_over = (refl, refl, refl, refl)

-- ---- one for each refusal: the first cause gives the number, and the words stay

pub refusals :
    -- 11: a log byte too few
    (deliver_pending_on 2 1 56 9 odd_words (take 111 odd_logs) ≡ none_delivered odd_words 11)
    -- 1: card 1's replica is of two counters; of card 0; card 0's has a bad row besides
    × (deliver_pending_on 2 1 56 9 (set odd_words 15 2) odd_logs ≡ none_delivered (set odd_words 15 2) 1)
    × (deliver_pending_on 2 1 56 9 (set odd_words 16 0) odd_logs ≡ none_delivered (set odd_words 16 0) 1)
    × (deliver_pending_on 2 1 56 9 (set (set odd_words 16 0) 9 1) odd_logs ≡ none_delivered (set (set odd_words 16 0) 9 1) 1)
    -- 2: the row of card 1's replica has (0, 1, 0); card 0's N is above what it has made besides
    × (deliver_pending_on 2 1 56 9 (set odd_words 23 1) odd_logs ≡ none_delivered (set odd_words 23 1) 2)
    × (deliver_pending_on 2 1 56 9 (set (set odd_words 23 1) 6 3) odd_logs ≡ none_delivered (set (set odd_words 23 1) 6 3) 2)
    -- 1: card 1's replica has a bit for counter 1; 2: it has one for counter 0, whose row has no entry
    × (deliver_pending_on 2 1 56 9 (set odd_words 17 2) odd_logs ≡ none_delivered (set odd_words 17 2) 1)
    × (deliver_pending_on 2 1 56 9 (set odd_words 17 1) odd_logs ≡ none_delivered (set odd_words 17 1) 2)
    -- 15: card 0 has made three, its log has two; card 1 has had three of its two; its second has sequence 3; its first is of card 1; its first is of version 1
    × (deliver_pending_on 2 1 56 9 (set odd_words 6 3) odd_logs ≡ none_delivered (set odd_words 6 3) 15)
    × (deliver_pending_on 2 1 56 9 (set odd_words 20 3) odd_logs ≡ none_delivered (set odd_words 20 3) 15)
    × (deliver_pending_on 2 1 56 9 odd_words (set odd_logs 47 3) ≡ none_delivered odd_words 15)
    × (deliver_pending_on 2 1 56 9 odd_words (set odd_logs 11 1) ≡ none_delivered odd_words 15)
    × (deliver_pending_on 2 1 56 9 odd_words (set odd_logs 3 1) ≡ none_delivered odd_words 15)
unfolding number_at bytes_of header_bytes entries_bytes clear_bytes message_bytes header_in_range clear_in_range entries_in_range unused in_range increment_message entries_at called_length message_at reads front_length clear_message sizes_in_range all_below any_below bit with_bit entry_well_formed card_well_formed row_well_formed tables_well_formed part waiting_part chassis_fits is_numbered begins_with log_right deliver_pending_on
refusals = (refl, refl, refl, refl, refl, refl, refl, refl, refl, refl, refl, refl, refl)

-- ---- "r = 12 accepted, 13 is 1, and 11 in a run and in deliver pending."

-- a run of no steps, and a call that may deliver nothing, over r fresh replicas of one counter and logs without room
abbrev run_of : ℕ → ℕ
run_of r = (run_on r 1 0 [] (fresh_replicas r 1 r) [] []).number

abbrev deliver_of : ℕ → ℕ
deliver_of r = (deliver_pending_on r 1 0 0 (fresh_replicas r 1 r) []).answer.number

pub card_limits : ((run_of 11 ≡ 0) × (run_of 12 ≡ 0) × (run_of 13 ≡ 11)) × ((deliver_of 11 ≡ 0) × (deliver_of 12 ≡ 0) × (deliver_of 13 ≡ 11))
unfolding fresh_words sizes_in_range replica_fits all_below any_below bit with_bit entry_well_formed card_well_formed row_well_formed tables_well_formed part state_after answers_of fresh_replicas chassis_fits sizes_right run_on is_numbered begins_with log_right deliver_pending_on rounds deliver_pending total_waiting
card_limits = ((refl, refl, refl), (refl, refl, refl))
