-- DEFINITIONS. One counter's own steps: what is left of a list of steps, and of what its cards sent, if no other counter had been there.
-- Which counter an accepted deliver step belongs to is known from the steps and which of them were accepted, since links keep the order made:
-- each link has a queue of counter numbers, fed as the ledger's queues are. (The ledger's own queues say it too, `Ledger.belongs`; these need no ledger.)
use Rattle.std.specs.Prelude.{ℕ, ◌+◌, Bool, false, cond, ◌&&◌, eqb, get_or}
use mathlib.Core.List.{List, [], ◌∷◌, ◌++◌, map, tail}
use Rattle.protocol.specs.Functions.{put}
use Rattle.protocol.specs.Ledger.{Step, count, clear, deliver}
use Rattle.protocol.specs.Chassis.{Message, increment, clearing, no_message, ClearEntry, Chassis, fresh_chassis, Offer, accepted, stepped, answers, counter_of}
use Rattle.protocol.specs.Runs.{step_of}

-- ---- "a link hands over its sender's accepted counts and clears, of all counters, in the order made"

-- by sender, then by receiver: the counters of what the link has still to hand over, in the order made
abbrev pub Turns : Type 0
Turns = ℕ → ℕ → List ℕ

abbrev pub no_turns : Turns
no_turns s i = []

-- what an accepted step does to them
unfoldable pub turned : Step → Turns → Turns
turned (count i k w) turns = put i (λ n. turns i n ++ k ∷ []) turns
turned (clear i k) turns = put i (λ n. turns i n ++ k ∷ []) turns
turned (deliver i s) turns = put s (put i (tail (turns s i)) (turns s)) turns

-- "and the step belongs to the counter of the one whose turn it is."
unfoldable pub turn_of : ℕ → List ℕ → Bool
turn_of q [] = false
turn_of q (k ∷ ks) = eqb k q

-- does an accepted step belong to counter q?
unfoldable pub belongs_by_turns : ℕ → Step → Turns → Bool
belongs_by_turns q (count i k w) turns = eqb k q
belongs_by_turns q (clear i k) turns = eqb k q
belongs_by_turns q (deliver i s) turns = turn_of q (turns s i)

-- q's own steps of a list, told which of them were accepted: those that were and belong to q, in order. `step` says which step an element of the list is.
unfoldable pub own_steps {ℓ} : {A : Type ℓ} → (A → Step) → ℕ → List A → List Bool → Turns → List A
own_steps step q [] fs turns = []
own_steps step q (x ∷ xs) [] turns = []
own_steps step q (x ∷ xs) (a ∷ fs) turns =
    cond (a && belongs_by_turns q (step x) turns) (x ∷ []) [] ++ own_steps step q xs fs (cond a (turned (step x) turns) turns)

-- ---- the list with every other counter left out

abbrev pub alone : ℕ → ℕ → List Offer → List Offer
alone r q os = own_steps step_of q os (answers r os fresh_chassis) no_turns

-- ---- the same, as the chassis has it: a deliver step belongs to the counter of the message that it hands over (claim `alone_is`)

unfoldable pub step_counter : Step → Chassis → ℕ
step_counter (count i k w) st = k
step_counter (clear i k) st = k
step_counter (deliver i s) st = counter_of (get_or (st.log s) ((st.replica i).N s) no_message)

-- the offers that are accepted, from the chassis st on, and are steps of counter q
unfoldable pub accepted_of : ℕ → ℕ → List Offer → Chassis → List Offer
accepted_of r q [] st = []
accepted_of r q (o ∷ os) st =
    cond (accepted r o st && eqb (step_counter o.step st) q) (o ∷ []) [] ++ accepted_of r q os (stepped r o st)

-- ---- what cards send

-- the messages of counter q, in order
unfoldable pub messages_of : ℕ → List Message → List Message
messages_of q [] = []
messages_of q (m ∷ ms) = cond (eqb (counter_of m) q) (m ∷ []) [] ++ messages_of q ms

-- A message but for the numbers p and c, which depend on C and so on all counters: kind, counter, amount, start, and the cards of a clear's entries.
-- Its length on the wire is that of the message.
abbrev pub entry_outline : ClearEntry → ClearEntry
entry_outline t = record { card = t.card; p = 0; c = 0 }

abbrev pub outline : Message → Message
outline (increment q w p start) = increment q w 0 start
outline (clearing q ts) = clearing q (map entry_outline ts)

-- the room that messages take, where a message takes `size`
unfoldable pub room : (Message → ℕ) → List Message → ℕ
room size [] = 0
room size (m ∷ ms) = size m + room size ms
