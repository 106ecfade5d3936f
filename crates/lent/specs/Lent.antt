-- LAWS. What the functions of this crate find in a chassis that is lent, as records.
use Rattle.std.specs.Prelude.{ℕ, suc, ◌≤◌, ◌<◌, ◌≡◌, Bool, true, false, cond, ◌&&◌, Option, MatchOption, List, leb, ltb, eqb, length, take, get_or}
use Rattle.protocol.specs.Limits.{most_cards}
use Rattle.protocol.specs.Functions.{all_below}
use Rattle.wire.specs.Message.{version_2, front_length}
use Rattle.replica_model.specs.Layout.{replica_length, N_of}
use Rattle.replica_model.specs.Calls.{in_place, row_well_formed}
use Rattle.chassis_model.specs.ListParts.{part}
use Rattle.chassis_model.specs.Log.{waiting_part, end_of}
use Rattle.chassis_model.specs.Run.{State, state_of}
use Rattle.chassis_model.proofs.Ends.{ends_in}
use Rattle.chassis_model.proofs.Places.{link_place, PlacesOf}
use Rattle.chassis_model.specs.Pending.{is_numbered, begins_with, log_right}
use Rattle.lent.specs.declared.Replicas.{Replicas}

-- ---- the replicas and the logs of a chassis

abbrev pub lent_replica : Replicas → ℕ → List ℕ
lent_replica replicas i = part (replica_length replicas.sizes.cards replicas.sizes.counters) replicas.words.now i

-- how many of card s's messages card i has had
abbrev pub received : Replicas → ℕ → ℕ → ℕ
received replicas i s = N_of replicas.sizes.cards (lent_replica replicas i) s

abbrev pub lent_log : Replicas → List ℕ → ℕ → List ℕ
lent_log replicas logs s = part replicas.sizes.log_bytes logs s

-- the words and the logs as a run's, and where card i's next message of card s stands
abbrev pub lent_state : Replicas → List ℕ → State
lent_state replicas logs = state_of replicas.words.now logs

abbrev pub next_place : Replicas → List ℕ → ℕ → ℕ → ℕ
next_place replicas logs i s = ends_in replicas.sizes.cards replicas.sizes.counters replicas.sizes.log_bytes (lent_state replicas logs) i s

-- ---- the tests of numbers 1, 2 and 15

unfoldable pub are_placed : Replicas → Bool
are_placed replicas = all_below replicas.sizes.cards (λ i. in_place replicas.sizes.cards replicas.sizes.counters i (lent_replica replicas i))

unfoldable pub are_formed : Replicas → Bool
are_formed replicas = all_below replicas.sizes.cards (λ i. all_below replicas.sizes.counters (row_well_formed (lent_replica replicas i)))

-- whether no card has had more of card s's messages than it has made
abbrev pub none_ahead : Replicas → ℕ → Bool
none_ahead replicas s = all_below replicas.sizes.cards (λ i. leb (received replicas i s) (received replicas s s))

-- whether this log is right as card s's
abbrev pub is_log_right : Replicas → List ℕ → ℕ → Bool
is_log_right replicas log s = begins_with s (received replicas s s) log && none_ahead replicas s

unfoldable pub are_logs_right : Replicas → List ℕ → Bool
are_logs_right replicas logs = all_below replicas.sizes.cards (log_right replicas.sizes.cards replicas.sizes.counters replicas.sizes.log_bytes (lent_state replicas logs))

-- ---- a walk along a log

-- the length of the message at the front, if it is card s's message number q; else 0
abbrev pub numbered_length : ℕ → ℕ → List ℕ → ℕ
numbered_length s q rest = cond (is_numbered s q (take (front_length version_2 rest) rest)) (front_length version_2 rest) 0

-- a message that is not there, or is not card s's of its number, among the first n
pub record Missing (log : List ℕ) (s n : ℕ) : Type 0 where
  pub behind : ℕ
  pub below : behind < n
  pub other : is_numbered s (suc behind) (waiting_part (suc behind) log) ≡ false

-- a walk from the end of the first messages, `from` of them, to the end of the first `to`
pub record Arrived (log : List ℕ) (s from to at : ℕ) : Type 0 where
  pub place : at ≡ end_of to log
  pub there : (j : ℕ) → from ≤ j → j < to → is_numbered s (suc j) (waiting_part (suc j) log) ≡ true

-- it arrives, unless one of them is missing
abbrev pub Walked : List ℕ → ℕ → ℕ → ℕ → Option ℕ → Type 0
Walked log s from to place = MatchOption place (Missing log s to) (Arrived log s from to)

-- ---- where a walk stops

-- behind the first `passed` messages of card s, none of the first n receivers stands before `stop`
pub record NextStop (replicas : Replicas) (s passed made n stop : ℕ) : Type 0 where
  pub above : passed < stop
  pub within : stop ≤ made
  pub nearest : (i : ℕ) → i < n → passed < received replicas i s → stop ≤ received replicas i s

-- of the first n receivers those that have had `number` messages of card s have the place `at`; no other place moves
pub record Marked (replicas : Replicas) (s number at n : ℕ) (places places' : List ℕ) : Type 0 where
  pub size : length places' ≡ length places
  pub place : (i u : ℕ) → i < most_cards → u < most_cards
      → get_or places' (link_place i u) 0 ≡ cond (ltb i n && eqb u s && eqb (received replicas i s) number) at (get_or places (link_place i u) 0)

-- ---- what is found

-- the places of the links from card s, if this log is right as its
pub record Found (replicas : Replicas) (log : List ℕ) (s : ℕ) (places : List ℕ) (ok : Bool) (places' : List ℕ) : Type 0 where
  pub right : ok ≡ is_log_right replicas log s
  pub size : length places' ≡ length places
  pub here : ok ≡ true → (i : ℕ) → i < replicas.sizes.cards → get_or places' (link_place i s) 0 ≡ end_of (received replicas i s) log
  pub others : (i u : ℕ) → i < replicas.sizes.cards → u < replicas.sizes.cards → (u ≡ s → ⊥) → get_or places' (link_place i u) 0 ≡ get_or places (link_place i u) 0

-- the places of all links, if every log is right
pub record AllFound (replicas : Replicas) (logs : List ℕ) (ok : Bool) (places' : List ℕ) : Type 0 where
  pub right : ok ≡ are_logs_right replicas logs
  pub places : ok ≡ true → PlacesOf replicas.sizes.cards (next_place replicas logs) places'
