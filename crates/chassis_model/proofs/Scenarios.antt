-- CLAIMS. The scenarios of SPECIFICATION 10.1 that are to be proved as one list under one theorem, computed on the run's definition. Every figure of an order is
-- looked for in one run of its steps, and was worked out by hand from its rules. With a few more orders, each of its wrong turns fails.
use Rattle.std.specs.Prelude.{ℕ, ◌+◌, ◌*◌, ◌≡◌, refl, List, [], ◌∷◌, ◌++◌, Bool, true, cond, ◌&&◌, length, replicate, eqb}
use Rattle.protocol.specs.declared.Entry.{Entry}
use Rattle.protocol.proofs.Tables.{put, sum, bits}
use Rattle.protocol.specs.Entry.{incremented, cleared}
use Rattle.protocol.specs.Names.{has, insert, join, names_after, tally, any, latest, beyond}
use Rattle.protocol.specs.Ledger.{applied, sent, made, next_item, rest_items, handed, count_item, holds, clear_names, after_accepted, after_step, after_steps, ledger_value, ledger_holders}
use Rattle.protocol.specs.Chassis.{count_message, present_entries, clear_message, read_value, read_holders}
use Rattle.protocol.proofs.StoreLaws.{cleared_words, taken_words, shown}
use Rattle.protocol.specs.Functions.{bit, with_bit, any_below, all_below, count_below}
use Rattle.protocol.specs.Acceptance.{entry_well_formed, card_well_formed, all_entries, cards_known, increment_plausible, entry_plausible, plausible, tables_well_formed}
use Rattle.wire.specs.Number.{number_at, bytes_of}
use Rattle.wire.specs.Message as form
use Rattle.wire.specs.Message.{header_bytes, increment_bytes, entry_bytes, entries_bytes, clear_bytes, message_bytes, header_in_range, increment_in_range, amount_in_range, clear_in_range, entry_in_range, entries_in_range, unused, in_range, increment_message, entries_at, called_length, message_at, reads, front_length}
use Rattle.replica_model.specs.Layout.{replica_length, C_of, N_of, entry_of, fresh_words}
use Rattle.replica_model.specs.declared.Reading.{Reading}
use Rattle.replica_model.specs.Calls.{sizes_in_range, right, row_well_formed, reading, read_on, count_on, clear_on, replica_fits, send_with, words_after, take_with}
use Rattle.replica_model.specs.Format.{content}
use Rattle.chassis_model.specs.declared.Step.{Step}
use Rattle.chassis_model.specs.ListParts.{part, put_part}
use Rattle.chassis_model.specs.Log.{waiting_part, end_of}
use Rattle.chassis_model.specs.Run as run
use Rattle.chassis_model.specs.Run.{action_of, amount_fits, call_of, State, replica_of, free_from, delivered, acted, state_after, answer_length, answers_of, numbers_in, fresh_replicas, count_kind, chassis_fits, sizes_right, run_on}
use Rattle.chassis_model.specs.Answers.{fresh_state}
use Rattle.chassis_model.specs.Ledger.{ledger_action, ledger_of, ledger_reading}

-- What a card has after the steps on a chassis of so many cards and counters: of the counter its entry for the origin card, C and N of that origin, and what it
-- reads (the value, the holder set as a number and how many cards hold); and how many bytes of its log its own messages take.
pub record Scenario : Type 0 where
  pub cards : ℕ
  pub counters : ℕ
  pub steps : List Step
  pub card : ℕ
  pub counter : ℕ
  pub origin : ℕ
  pub entry : Entry
  pub C : ℕ
  pub N : ℕ
  pub value : ℕ
  pub holders : ℕ
  pub holding : ℕ
  pub logged : ℕ

-- a step that has an amount, and one as the specification writes it: a count by 1, or one of the others, which have none
abbrev step_by : ℕ → ℕ → ℕ → ℕ → Step
step_by kind first second amount = record { kind = kind; first = first; second = second; amount = amount }

abbrev step : ℕ → ℕ → ℕ → Step
step kind first second = step_by kind first second (cond (eqb kind count_kind) 1 0)

abbrev entry : ℕ → ℕ → ℕ → Entry
entry p n c = record { p = p; n = n; c = c }

-- "40 in version 2"
abbrev a_count : ℕ
a_count = 40

-- "28 + 20e bytes"
abbrev a_clear_of : ℕ → ℕ
a_clear_of e = 28 + 20 * e

abbrev same_entry : Entry → Entry → Bool
same_entry e f = eqb e.p f.p && eqb e.n f.n && eqb e.c f.c

abbrev same_reading : Reading → Reading → Bool
same_reading a b = eqb a.number b.number && eqb a.value b.value && eqb a.holders b.holders && eqb a.holder_count b.holder_count

sum_of : List ℕ → ℕ
sum_of [] = 0
sum_of (x ∷ xs) = x + sum_of xs

-- L is any number that is enough, and what is lent holds anything
abbrev L : ℕ
L = 150

-- The run and each of its steps answer 0; the entry, C and N are there; what the card reads is the reading due, number 0, and so is what the ledger gives; and the
-- card's own messages, as many as its own N, take the bytes.
holds_good : Scenario → Bool
holds_good s =
    let r = s.cards in
    let k = s.counters in
    let words : List ℕ = replicate (r * replica_length r k) 7 in
    let logs : List ℕ = replicate (r * L) 1 in
    let answers : List ℕ = replicate (answer_length * length s.steps) 1 in
    let after = run_on r k L s.steps words logs answers in
    let st : State = record { words = after.words; logs = after.logs } in
    let b = replica_of r k L st s.card in
    let due : Reading = record { number = 0; value = s.value; holders = s.holders; holder_count = s.holding } in
    eqb after.number 0 && eqb (sum_of after.answers) 0
    && same_entry (entry_of r b s.counter s.origin) s.entry && eqb (C_of b s.origin) s.C && eqb (N_of r b s.origin) s.N
    && same_reading (read_on b s.counter) due
    && same_reading (ledger_reading r s.card (ledger_of r s.counter s.steps after.answers)) due
    && eqb (free_from r k L st s.card) s.logged

pub all_good : List Scenario → Bool
all_good [] = true
all_good (s ∷ ss) = holds_good s && all_good ss

-- "For r = 2, k = 1 and steps (1,0,0,1) (3,1,0,0) (2,1,0,0) (1,0,0,1)"
listing : List Step
listing = step 1 0 0 ∷ step 3 1 0 ∷ step 2 1 0 ∷ step 1 0 0 ∷ []

-- "(1,0,0,1) (3,1,0,0) (2,1,0,0) (3,2,1,0)"
overtaking : List Step
overtaking = step 1 0 0 ∷ step 3 1 0 ∷ step 2 1 0 ∷ step 3 2 1 ∷ []

-- "(1,0,0,1) (3,1,0,0) (3,2,0,0) (2,1,0,0) (3,0,1,0) (1,0,0,1) (3,2,0,0)"
not_yet : List Step
not_yet = step 1 0 0 ∷ step 3 1 0 ∷ step 3 2 0 ∷ step 2 1 0 ∷ step 3 0 1 ∷ step 1 0 0 ∷ step 3 2 0 ∷ []

-- card 1 clears two counts of card 0, and the clear is the first to reach card 2
abbrev both_cleared : List Step
both_cleared = step 1 0 0 ∷ step 1 0 0 ∷ step 3 1 0 ∷ step 3 1 0 ∷ step 2 1 0 ∷ step 3 2 1 ∷ []

-- "(1,0,0,3) (3,1,0,0) (2,0,0,0) (1,0,0,5) (3,1,0,0) (3,1,0,0)": card 0 counts by 3, clears and counts by 5, and card 1 takes each message
abbrev by_amounts : List Step
by_amounts = step_by 1 0 0 3 ∷ step 3 1 0 ∷ step 2 0 0 ∷ step_by 1 0 0 5 ∷ step 3 1 0 ∷ step 3 1 0 ∷ []

pub scenarios : List Scenario
scenarios =
    -- the listing's lines, "0,0,2,1,0" and "1,0,0,0,1": not starred, but the orders go on from here
    record { cards = 2; counters = 1; steps = listing; card = 0; counter = 0; origin = 0; entry = entry 2 0 2; C = 2; N = 2; value = 2; holders = 1; holding = 1; logged = a_count + a_count }
    ∷ record { cards = 2; counters = 1; steps = listing; card = 1; counter = 0; origin = 0; entry = entry 0 0 0; C = 1; N = 1; value = 0; holders = 0; holding = 0; logged = a_clear_of 1 }
    -- "After the listing, (3,0,1,0): card 0 has (2,1,2), value 1."
    ∷ record { cards = 2; counters = 1; steps = listing ++ step 3 0 1 ∷ []; card = 0; counter = 0; origin = 0; entry = entry 2 1 2; C = 2; N = 2; value = 1; holders = 1; holding = 1; logged = a_count + a_count }
    -- "Then (3,1,0,0): card 1 has (2,1,2), value 1."
    ∷ record { cards = 2; counters = 1; steps = listing ++ step 3 0 1 ∷ step 3 1 0 ∷ []; card = 1; counter = 0; origin = 0; entry = entry 2 1 2; C = 2; N = 2; value = 1; holders = 1; holding = 1; logged = a_clear_of 1 }
    -- "r = 3: (1,0,0,1) (3,1,0,0) (2,1,0,0) (3,2,1,0): card 2 has (1,1,1), value 0, holders 1."
    ∷ record { cards = 3; counters = 1; steps = overtaking; card = 2; counter = 0; origin = 0; entry = entry 1 1 1; C = 0; N = 0; value = 0; holders = 1; holding = 1; logged = 0 }
    -- "Then (3,2,0,0): absent, holders 0."
    ∷ record { cards = 3; counters = 1; steps = overtaking ++ step 3 2 0 ∷ []; card = 2; counter = 0; origin = 0; entry = entry 0 0 0; C = 1; N = 1; value = 0; holders = 0; holding = 0; logged = 0 }
    -- "r = 3: (1,0,0,1) (3,1,0,0) (3,2,0,0) (2,1,0,0) (3,0,1,0) (1,0,0,1) (3,2,0,0): card 2 has (2,1,2), value 1, clear not yet come."
    -- Not yet come: nothing was received from card 1, who made it.
    ∷ record { cards = 3; counters = 1; steps = not_yet; card = 2; counter = 0; origin = 0; entry = entry 2 1 2; C = 2; N = 2; value = 1; holders = 1; holding = 1; logged = 0 }
    ∷ record { cards = 3; counters = 1; steps = not_yet; card = 2; counter = 0; origin = 1; entry = entry 0 0 0; C = 0; N = 0; value = 1; holders = 1; holding = 1; logged = 0 }
    -- "Then (3,2,1,0): unchanged." The clear has come.
    ∷ record { cards = 3; counters = 1; steps = not_yet ++ step 3 2 1 ∷ []; card = 2; counter = 0; origin = 0; entry = entry 2 1 2; C = 2; N = 2; value = 1; holders = 1; holding = 1; logged = 0 }
    ∷ record { cards = 3; counters = 1; steps = not_yet ++ step 3 2 1 ∷ []; card = 2; counter = 0; origin = 1; entry = entry 0 0 0; C = 0; N = 1; value = 1; holders = 1; holding = 1; logged = 0 }
    -- "(1,0,0,1) (1,0,0,1) (1,0,1,1): counter 1 has (3,2,3), value 1."
    ∷ record { cards = 2; counters = 2; steps = step 1 0 0 ∷ step 1 0 0 ∷ step 1 0 1 ∷ []; card = 0; counter = 1; origin = 0; entry = entry 3 2 3; C = 3; N = 3; value = 1; holders = 1; holding = 1; logged = a_count + a_count + a_count }
    -- "(1,0,0,1) (2,0,0,0) (1,0,0,1): (2,1,2), value 1."
    ∷ record { cards = 2; counters = 1; steps = step 1 0 0 ∷ step 2 0 0 ∷ step 1 0 0 ∷ []; card = 0; counter = 0; origin = 0; entry = entry 2 1 2; C = 2; N = 3; value = 1; holders = 1; holding = 1; logged = a_count + a_clear_of 1 + a_count }
    -- "Clear on a fresh replica: 28 bytes, N 1, C 0."
    ∷ record { cards = 2; counters = 1; steps = step 2 0 0 ∷ []; card = 0; counter = 0; origin = 0; entry = entry 0 0 0; C = 0; N = 1; value = 0; holders = 0; holding = 0; logged = 28 }
    -- "Wrong turns: .. dropping an entry as soon as p = n". Not starred: the entry stays past a clear, past the first of two increments that it cancels, and goes
    -- with the second.
    ∷ record { cards = 3; counters = 1; steps = overtaking ++ step 2 2 0 ∷ []; card = 2; counter = 0; origin = 0; entry = entry 1 1 1; C = 0; N = 0; value = 0; holders = 1; holding = 1; logged = a_clear_of 1 }
    ∷ record { cards = 3; counters = 1; steps = both_cleared ++ step 3 2 0 ∷ []; card = 2; counter = 0; origin = 0; entry = entry 2 2 2; C = 1; N = 1; value = 0; holders = 1; holding = 1; logged = 0 }
    ∷ record { cards = 3; counters = 1; steps = both_cleared ++ step 3 2 0 ∷ step 3 2 0 ∷ []; card = 2; counter = 0; origin = 0; entry = entry 0 0 0; C = 2; N = 2; value = 0; holders = 0; holding = 0; logged = 0 }
    -- "card 1 has (8,3,8), value 5."
    ∷ record { cards = 2; counters = 1; steps = by_amounts; card = 1; counter = 0; origin = 0; entry = entry 8 3 8; C = 8; N = 3; value = 5; holders = 1; holding = 1; logged = 0 }
    ∷ record { cards = 2; counters = 1; steps = by_amounts; card = 0; counter = 0; origin = 0; entry = entry 8 3 8; C = 8; N = 3; value = 5; holders = 1; holding = 1; logged = a_count + a_clear_of 1 + a_count }
    ∷ []

pub scenarios_hold : all_good scenarios ≡ true
unfolding all_good holds_good scenarios listing overtaking not_yet sum_of put sum bits incremented cleared has insert join names_after tally any latest beyond applied sent made next_item rest_items handed count_item holds clear_names after_accepted after_step after_steps ledger_value ledger_holders count_message present_entries clear_message read_value read_holders cleared_words taken_words shown number_at bytes_of header_bytes increment_bytes entry_bytes entries_bytes clear_bytes message_bytes header_in_range increment_in_range amount_in_range clear_in_range entry_in_range entries_in_range unused in_range increment_message entries_at called_length message_at reads front_length form.clear_message fresh_words sizes_in_range right replica_fits all_below any_below bit with_bit count_below entry_well_formed card_well_formed row_well_formed tables_well_formed reading read_on send_with words_after count_on clear_on content all_entries cards_known increment_plausible entry_plausible plausible take_with part put_part waiting_part end_of action_of amount_fits call_of run.made delivered acted state_after answers_of numbers_in fresh_replicas chassis_fits sizes_right run_on ledger_action ledger_of ledger_reading
scenarios_hold = refl

-- "A count by 0 or by 65,536, a clear and a delivery with amount 1: 16. A clear with amount 1 of a counter that there is not: 3." On a chassis of two cards and one counter: counts by 0, by 65,536 and by 65,535; a clear, a delivery and a read and
-- clear with an amount; and what is looked at before the amount, a counter and a card that are not there.
abbrev pub amounts : List Step
amounts =
    step_by 1 0 0 0 ∷ step_by 1 0 0 65536 ∷ step_by 1 0 0 65535 ∷ step_by 2 0 0 1 ∷ step_by 3 1 0 1 ∷ step_by 4 0 0 1
    ∷ step_by 2 0 9 1 ∷ step_by 1 0 9 0 ∷ step_by 3 1 1 1 ∷ step_by 1 2 0 0 ∷ step 3 1 0 ∷ step_by 3 1 0 1 ∷ []

pub amounts_refused : numbers_in (answers_of 2 1 L amounts (fresh_state 2 1 L (replicate (2 * L) 1))) ≡ 16 ∷ 16 ∷ 0 ∷ 16 ∷ 16 ∷ 16 ∷ 3 ∷ 3 ∷ 7 ∷ 7 ∷ 0 ∷ 16 ∷ []
unfolding put sum bits incremented cleared has insert join names_after tally any latest beyond applied sent made next_item rest_items handed count_item holds clear_names after_accepted after_step after_steps ledger_value ledger_holders count_message present_entries clear_message read_value read_holders cleared_words taken_words shown number_at bytes_of header_bytes increment_bytes entry_bytes entries_bytes clear_bytes message_bytes header_in_range increment_in_range amount_in_range clear_in_range entry_in_range entries_in_range unused in_range increment_message entries_at called_length message_at reads front_length form.clear_message fresh_words sizes_in_range right replica_fits all_below any_below bit with_bit count_below entry_well_formed card_well_formed row_well_formed tables_well_formed reading read_on send_with words_after count_on clear_on content all_entries cards_known increment_plausible entry_plausible plausible take_with part put_part waiting_part end_of action_of amount_fits call_of run.made delivered acted state_after answers_of numbers_in fresh_replicas chassis_fits sizes_right run_on ledger_action ledger_of ledger_reading
amounts_refused = refl
