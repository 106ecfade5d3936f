-- DEFINITIONS. What a step of a run answers, its number and its value, with no call named: "Run steps: 12, 7 (any card named not below r), 3 (not for deliver), 16, 4, 14, 13".
-- Of the words and bytes only three numbers are looked at, all of the card that makes a message: how many it has made, how much it has counted, and how many bytes of
-- its log its messages take.
use Rattle.std.specs.Prelude.{ℕ, suc, ◌+◌, ◌*◌, List, [], ◌∷◌, ◌++◌, Bool, false, not, cond, ◌&&◌, ◌||◌, leb, ltb, eqb, get_or}
use Rattle.protocol.specs.Checks.{Check, or_else, first_failing}
use Rattle.protocol.specs.Limits.{bad_card, bad_kind, bad_counter, exhausted, nothing_waiting, log_full, bad_amount}
use Rattle.protocol.specs.Ledger as ledger
use Rattle.protocol.specs.Ledger.{Ledger, holds, link_waits, ledger_value}
use Rattle.protocol.specs.Functions.{count_below}
use Rattle.wire.specs.Message.{version_2, increment_length, clear_length}
use Rattle.replica_model.specs.Calls.{left_checks}
use Rattle.chassis_model.specs.Run.{Step, Making, Count, Clear, ReadAndClear, Action, Make, Deliver, Nothing, action_of, amount_fits, asked, counted, State, StepAnswer, answer_length, N_at, C_at, free_from, fresh_replicas}
use Rattle.chassis_model.specs.Ledger.{ledger_action}

-- "All replicas begin fresh.": the state in which a run begins
abbrev pub fresh_state : ℕ → ℕ → ℕ → List ℕ → State
fresh_state r k L logs = record { words = fresh_replicas r k r; logs = logs }

-- "40 in version 2", "28 + 20e bytes": how long the message of a step is that the ledger knows as a count or a clear, where e cards hold
unfoldable pub step_size : ledger.Step → ℕ → ℕ
step_size (ledger.count i q w) e = increment_length version_2
step_size (ledger.clear i q) e = clear_length e
step_size (ledger.deliver i s) e = 0

-- of a message that card i makes on counter q, e is the number of holding cards of that counter's ledger l
abbrev pub message_size : ℕ → Making → ℕ → ℕ → Ledger → ℕ
message_size r m i q l = step_size (ledger_action (Make m i q)) (count_below r (λ j. holds i j l))

-- 3, 16 and 4, of a card that is there, has made N messages and counted C; and then the number `full` where the message has no room. `fits` is the step's
-- `amount_fits`
abbrev pub maker_checks : ℕ → ℕ → Making → Bool → ℕ → ℕ → Bool → ℕ → List Check
maker_checks k q m fits N C room full =
    or_else (ltb q k) bad_counter ∷ or_else (fits && asked m) bad_amount ∷ left_checks N C (counted m) ++ (or_else room full ∷ [])

-- "12, 7 (any card named not below r), 3 (not for deliver), 16, 4, 14, 13". The ledgers are those of every counter, and any of them
-- (`any`) tells whether the link has something to hand over.
abbrev pub due_checks : ℕ → ℕ → ℕ → ℕ → Action → Bool → State → (ℕ → Ledger) → List Check
due_checks r k L any (Make m i q) fits st ls =
    or_else (ltb i r) bad_card
    ∷ maker_checks k q m fits (N_at r k L st i i) (C_at r k L st i) (leb (free_from r k L st i + message_size r m i q (ls q)) L) log_full
due_checks r k L any (Deliver i s) fits st ls =
    or_else (ltb i r && ltb s r && not (eqb i s)) bad_card ∷ or_else fits bad_amount ∷ or_else (link_waits i s (ls any)) nothing_waiting ∷ []
due_checks r k L any Nothing fits st ls = or_else false bad_kind ∷ []

-- the value that an action asks for, where `value i q` is that of counter q on card i: a read and clear asks for one, and nothing else does
unfoldable pub value_asked : Action → (ℕ → ℕ → ℕ) → ℕ
value_asked (Make (Count w) i q) value = 0
value_asked (Make Clear i q) value = 0
value_asked (Make ReadAndClear i q) value = value i q
value_asked (Deliver i s) value = 0
value_asked Nothing value = 0

-- "its number, then the value read, 0 for the other kinds and for declined steps". The value is the ledger's at that card
unfoldable pub due_answer : ℕ → ℕ → ℕ → ℕ → Step → State → (ℕ → Ledger) → StepAnswer
due_answer r k L any s st ls =
    let number = first_failing (due_checks r k L any (action_of s) (amount_fits s) st ls) in
    record { number = number; value = cond (eqb number 0) (value_asked (action_of s) (λ i q. ledger_value i (ls q))) 0 }

-- what the answer words of a run say of its step behind the first n
abbrev pub answer_in : List ℕ → ℕ → StepAnswer
answer_in answers n = record { number = get_or answers (answer_length * n) 0; value = get_or answers (suc (answer_length * n)) 0 }

-- the answers that there are
abbrev pub run_answer : ℕ → Bool
run_answer n =
    eqb n 0 || eqb n bad_counter || eqb n exhausted || eqb n bad_card || eqb n bad_kind || eqb n nothing_waiting || eqb n log_full || eqb n bad_amount
