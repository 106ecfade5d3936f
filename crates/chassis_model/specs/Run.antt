-- DEFINITIONS. A run of steps over r replicas and r logs (SPECIFICATION 6): the answer of every step, and the words and log bytes it leaves.
use Rattle.std.specs.Prelude.{ℕ, zero, suc, ◌+◌, ◌*◌, ◌/◌, ◌%◌, ◌^◌, ◌<◌, List, [], ◌∷◌, ◌++◌, Bool, true, false, not, cond, ◌&&◌, ◌||◌, length, take, drop, ltb, eqb}
use Rattle.protocol.specs.Checks.{Check, or_else, checked}
use Rattle.protocol.specs.Limits.{short_output, bad_card, bad_counter, bad_sizes, bad_kind, nothing_waiting, log_full, bad_amount}
use Rattle.wire.specs.Number.{int_at, unsigned_int}
use Rattle.replica_model.specs.Layout.{replica_length, C_of, N_of, fresh_words}
use Rattle.replica_model.specs.Calls.{sizes_in_range, is_amount, count_on, clear_on, ClearedOutcome, with_value, read_and_clear_on, take_on}
use Rattle.chassis_model.specs.ListParts.{part, put_part}
use Rattle.chassis_model.specs.Log.{waiting_part, end_of}
pub use Rattle.chassis_model.specs.declared.Step.{Step}
pub use Rattle.chassis_model.specs.declared.Making.{Making}
pub use Rattle.chassis_model.specs.declared.Making.TheVariants.{Count, Clear, ReadAndClear}
pub use Rattle.chassis_model.specs.declared.Action.{Action}
pub use Rattle.chassis_model.specs.declared.Action.TheVariants.{Make, Deliver, Nothing}
pub use Rattle.chassis_model.specs.declared.StepAnswer.{StepAnswer}

-- "1 count (card, counter), 2 clear (card, counter), 3 deliver (receiver, sender), 4 read and clear (card, counter)"
abbrev pub count_kind : ℕ
count_kind = 1

abbrev pub clear_kind : ℕ
clear_kind = 2

abbrev pub deliver_kind : ℕ
deliver_kind = 3

abbrev pub read_and_clear_kind : ℕ
read_and_clear_kind = 4

-- what a step asks for: the one place where its numbers are looked at
unfoldable pub action_of : Step → Action
action_of s =
    cond (eqb s.kind count_kind) (Make (Count s.amount) s.first s.second)
    (cond (eqb s.kind clear_kind) (Make Clear s.first s.second)
    (cond (eqb s.kind deliver_kind) (Deliver s.first s.second)
    (cond (eqb s.kind read_and_clear_kind) (Make ReadAndClear s.first s.second) Nothing)))

-- "A count has its amount, 1 to 65,535; the others have 0.": whether the step is one that counts or has none
unfoldable pub amount_fits : Step → Bool
amount_fits s = eqb s.kind count_kind || eqb s.amount 0

-- what a making counts; and whether its amount is in range, which is asked of a count alone
unfoldable pub counted : Making → ℕ
counted (Count w) = w
counted Clear = 0
counted ReadAndClear = 0

unfoldable pub asked : Making → Bool
asked (Count w) = is_amount w
asked Clear = true
asked ReadAndClear = true

-- the call that makes a message on counter q, with the value that it reads: 0 for a count and a clear
unfoldable pub call_of : Making → ℕ → List ℕ → List ℕ → ClearedOutcome
call_of (Count w) q b out = with_value 0 (count_on b q w out)
call_of Clear q b out = with_value 0 (clear_on b q out)
call_of ReadAndClear q b out = read_and_clear_on b q out

-- the words of r replicas, and the bytes of r logs of L bytes each
pub record State : Type 0 where
  pub words : List ℕ
  pub logs : List ℕ

abbrev pub state_of : List ℕ → List ℕ → State
state_of words logs = record { words = words; logs = logs }

-- what a step answers, and the state that it leaves
pub record Stepped : Type 0 where
  pub answer : StepAnswer
  pub state : State

-- an answer that is a number and no value
abbrev pub answered : ℕ → StepAnswer
answered number = record { number = number; value = 0 }

abbrev pub declined : State → ℕ → Stepped
declined st number = record { answer = answered number; state = st }

-- "Each step has two answer words, one after the other: its number, then the value read"
abbrev pub answer_words : StepAnswer → List ℕ
answer_words a = a.number ∷ a.value ∷ []

-- how many they are
abbrev pub answer_length : ℕ
answer_length = 2

-- of the answer words of a list of steps: the numbers, and the values
unfoldable pub numbers_in : List ℕ → List ℕ
numbers_in [] = []
numbers_in (n ∷ []) = []
numbers_in (n ∷ v ∷ rest) = n ∷ numbers_in rest

unfoldable pub values_in : List ℕ → List ℕ
values_in [] = []
values_in (n ∷ []) = []
values_in (n ∷ v ∷ rest) = v ∷ values_in rest

-- "All replicas begin fresh": those of the first n of r cards
unfoldable pub fresh_replicas : ℕ → ℕ → ℕ → List ℕ
fresh_replicas r k zero = []
fresh_replicas r k (suc n) = fresh_replicas r k n ++ fresh_words r k n

module _ (r k L : ℕ) where
  abbrev pub replica_of : State → ℕ → List ℕ
  replica_of st i = part (replica_length r k) st.words i

  abbrev pub log_of : State → ℕ → List ℕ
  log_of st j = part L st.logs j

  -- N of card j in card i's replica
  abbrev pub N_at : State → ℕ → ℕ → ℕ
  N_at st i j = N_of r (replica_of st i) j

  -- C of card i in its own replica
  abbrev pub C_at : State → ℕ → ℕ
  C_at st i = C_of (replica_of st i) i

  -- "A message made is appended to its card's L bytes, right after that card's earlier ones": where the next message of card i goes
  abbrev pub free_from : State → ℕ → ℕ
  free_from st i = end_of (N_at st i i) (log_of st i)

  -- a message made by card i, with the rest of its log as the call's output; where that is too short the step answers 14
  unfoldable pub made : ℕ → (List ℕ → List ℕ → ClearedOutcome) → State → Stepped
  made i call st =
      let at = free_from st i in
      let done = call (replica_of st i) (drop at (log_of st i)) in
      record {
        answer = record { number = cond (eqb done.answer.number short_output) log_full done.answer.number; value = done.answer.value };
        state = record {
          words = put_part (replica_length r k) i done.words st.words;
          logs = put_part L i (take at (log_of st i) ++ done.out) st.logs;
        };
      }

  -- "Deliver takes the sender's message number N + 1, N being the receiver's."
  unfoldable pub delivered : ℕ → ℕ → State → Stepped
  delivered i s st =
      let done = take_on (replica_of st i) (waiting_part (suc (N_at st i s)) (log_of st s)) in
      record {
        answer = answered done.answer.number;
        state = record { words = put_part (replica_length r k) i done.words st.words; logs = st.logs };
      }

  -- "Run steps: 12, 7 (any card named not below r), 3 (not for deliver), 16, 4, 14, 13": the step's own checks, where `fits` says that the step counts or has no
  -- amount. 4 and 14 are those of the call that makes the message, and so is 16 for the amount of a count, which the call too asks right after 3.
  -- "the same card twice is 7"; "One waits exactly when the sender's own N is above the receiver's N of that sender"
  abbrev pub step_checks : Action → Bool → State → List Check
  step_checks (Make m i q) fits st = or_else (ltb i r) bad_card ∷ or_else (ltb q k) bad_counter ∷ or_else fits bad_amount ∷ []
  step_checks (Deliver i s) fits st =
      or_else (ltb i r && ltb s r && not (eqb i s)) bad_card ∷ or_else fits bad_amount ∷ or_else (ltb (N_at st i s) (N_at st s s)) nothing_waiting ∷ []
  step_checks Nothing fits st = or_else false bad_kind ∷ []

  -- what a step does whose own checks pass
  abbrev pub performed : Action → State → Stepped
  performed (Make m i q) st = made i (call_of m q) st
  performed (Deliver i s) st = delivered i s st
  performed Nothing st = declined st bad_kind

  unfoldable pub acted : Action → Bool → State → Stepped
  acted a fits st = checked (declined st) (step_checks a fits st) (performed a st)

  abbrev pub step_on : Step → State → Stepped
  step_on s st = acted (action_of s) (amount_fits s) st

  unfoldable pub state_after : List Step → State → State
  state_after [] st = st
  state_after (s ∷ ss) st = state_after ss (step_on s st).state

  -- "An accepted step answers 0; after a declined one the run goes on."
  unfoldable pub answers_of : List Step → State → List ℕ
  answers_of [] st = []
  answers_of (s ∷ ss) st = answer_words (step_on s st).answer ++ answers_of ss (step_on s st).state

  -- "r and k are in range, the words are r replicas long, the log is r times L bytes", of so many words and log bytes
  unfoldable pub chassis_fits : ℕ → ℕ → Bool
  chassis_fits words logs = sizes_in_range r k && eqb words (r * replica_length r k) && eqb logs (r * L)

  -- "Sizes are right when r and k are in range, the words are r replicas long, the log is r times L bytes and there are two answer words for each step."
  unfoldable pub sizes_right : ℕ → List ℕ → List ℕ → List ℕ → Bool
  sizes_right steps words logs answers = chassis_fits (length words) (length logs) && eqb (length answers) (answer_length * steps)

-- what a run answers, and what it leaves in the words, the logs and the answers
pub record RunOutcome : Type 0 where
  pub number : ℕ
  pub words : List ℕ
  pub logs : List ℕ
  pub answers : List ℕ

unfoldable pub run_on : ℕ → ℕ → ℕ → List Step → List ℕ → List ℕ → List ℕ → RunOutcome
run_on r k L steps words logs answers =
    let fresh : State = record { words = fresh_replicas r k r; logs = logs } in
    checked (λ n. record { number = n; words = words; logs = logs; answers = answers }) (or_else (sizes_right r k L (length steps) words logs answers) bad_sizes ∷ [])
    (record {
      number = 0;
      words = (state_after r k L steps fresh).words;
      logs = (state_after r k L steps fresh).logs;
      answers = answers_of r k L steps fresh;
    })

-- ---- steps as bytes: "as bytes, four unsigned ints each"

-- how many bytes a step takes
abbrev pub step_length : ℕ
step_length = 16

unfoldable pub step_bytes : Step → List ℕ
step_bytes s = unsigned_int s.kind ++ unsigned_int s.first ++ unsigned_int s.second ++ unsigned_int s.amount

unfoldable pub steps_bytes : List Step → List ℕ
steps_bytes [] = []
steps_bytes (s ∷ ss) = step_bytes s ++ steps_bytes ss

-- "Steps of four 32-bit numbers"
pub record StepFits (s : Step) : Type 0 where
  pub kind : s.kind < 2 ^ 32
  pub first : s.first < 2 ^ 32
  pub second : s.second < 2 ^ 32
  pub amount : s.amount < 2 ^ 32

abbrev pub AllFit : List Step → Type 0
AllFit [] = Unit {0}
AllFit (s ∷ ss) = StepFits s × AllFit ss

abbrev pub step_at : List ℕ → ℕ → Step
step_at bytes at = record { kind = int_at bytes at; first = int_at bytes (at + 4); second = int_at bytes (at + 8); amount = int_at bytes (at + 12) }

-- `count` steps, from byte `at` on
unfoldable pub steps_at : ℕ → List ℕ → ℕ → List Step
steps_at zero bytes at = []
steps_at (suc count) bytes at = step_at bytes at ∷ steps_at count bytes (at + step_length)

abbrev pub steps_of : List ℕ → List Step
steps_of bytes = steps_at (length bytes / step_length) bytes 0

-- "byte steps not a multiple of 16 long give 11"
unfoldable pub run_bytes_on : ℕ → ℕ → ℕ → List ℕ → List ℕ → List ℕ → List ℕ → RunOutcome
run_bytes_on r k L bytes words logs answers =
    checked (λ n. record { number = n; words = words; logs = logs; answers = answers }) (or_else (eqb (length bytes % step_length) 0) bad_sizes ∷ [])
    (run_on r k L (steps_of bytes) words logs answers)
