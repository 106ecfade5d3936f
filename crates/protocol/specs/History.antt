-- DEFINITIONS. Request 2026-14, "What planners may rely on": messages made and received, and "cleared" in the plain sense.
-- A history is fed as the ledger is: the list's steps in order, and which of them were accepted. It knows of nothing else: no replica, no log's bytes,
-- no ledger, and no rule of Algorithm 1. One history serves all counters.
use Rattle.std.specs.Prelude.{ℕ, suc, ◌+◌, Bool, true, false, cond, ◌&&◌, ◌||◌, List, [], ◌∷◌, ◌++◌, map, eqb, length, get_or}
use Rattle.protocol.specs.Functions.{put}
use Rattle.protocol.specs.Names.{Name, name, has, latest}
use Rattle.protocol.specs.Ledger.{Step, count, clear, deliver}
use Rattle.protocol.specs.Chassis.{Offer, fresh_chassis, answers}
use Rattle.protocol.specs.Runs.{step_of}

-- does one member of a list pass a test; do all; a number summed up over the members
unfoldable pub some_of {ℓ} : {A : Type ℓ} → (A → Bool) → List A → Bool
some_of p [] = false
some_of p (a ∷ s) = p a || some_of p s

unfoldable pub all_of {ℓ} : {A : Type ℓ} → (A → Bool) → List A → Bool
all_of p [] = true
all_of p (a ∷ s) = p a && all_of p s

unfoldable pub total {ℓ} : {A : Type ℓ} → (A → ℕ) → List A → ℕ
total f [] = 0
total f (a ∷ s) = f a + total f s

-- ---- messages

-- A message, as a planner sees it: an increment by an amount, or a clear. (The specification's increments are by 1.)
pub record Sent : Type 0 where
  -- its name: the sender, and the sequence, "counting all messages of that sender from 1"
  pub id : Name
  pub counter : ℕ
  pub clears : Bool
  -- how many increments it is; a clear is none
  pub amount : ℕ
  -- "every message that the sender had received before making it, over all counters", by name
  pub before : List Name

abbrev pub ids : List Sent → List Name
ids ms = map (λ m. m.id) ms

-- by card: the messages that it has made, the first one first; and those that it has received, the last one first
pub record History : Type 0 where
  pub log : ℕ → List Sent
  pub received : ℕ → List Sent

abbrev pub empty_history : History
empty_history = record { log = λ i. []; received = λ i. [] }

-- ---- the steps

-- card i receives m
unfoldable pub received_by : ℕ → Sent → History → History
received_by i m h = record { log = h.log; received = put i (m ∷ h.received i) h.received }

-- card i makes m: "A card's own messages count as received when made."
unfoldable pub made_by : ℕ → Sent → History → History
made_by i m h = received_by i m (record { log = put i (h.log i ++ m ∷ []) h.log; received = h.received })

-- what card i makes next: of counter q, a clear or not, by amount w
abbrev pub next_made : ℕ → ℕ → Bool → ℕ → History → Sent
next_made i q clears w h = record {
  id = name i (suc (length (h.log i)));
  counter = q;
  clears = clears;
  amount = w;
  before = ids (h.received i);
}

-- (stands for no message: no accepted step hands it over)
abbrev pub no_sent : Sent
no_sent = record { id = name 0 0; counter = 0; clears = false; amount = 0; before = [] }

-- "a link hands over its sender's accepted counts and clears, of all counters, in the order made": the one behind the latest of s's that i has
unfoldable pub next_received : ℕ → ℕ → History → Sent
next_received i s h = get_or (h.log s) (latest s (ids (h.received i))) no_sent

unfoldable pub extended : Step → History → History
extended (count i q w) h = made_by i (next_made i q false w h) h
extended (clear i q) h = made_by i (next_made i q true 0 h) h
extended (deliver i s) h = received_by i (next_received i s h) h

-- the list's steps, and of each whether it was accepted
unfoldable pub recorded : List Step → List Bool → History → History
recorded [] fs h = h
recorded (s ∷ ss) [] h = h
recorded (s ∷ ss) (a ∷ fs) h = recorded ss fs (cond a (extended s h) h)

-- the history beside a run (`after_run`) and a ledger (`ledger_after`), told the same
abbrev pub history_after : ℕ → List Offer → History
history_after r os = recorded (map step_of os) (answers r os fresh_chassis) empty_history

-- ---- what planners may rely on

-- "Call a card caught up when, for each message it has received, it has also received every message that the sender had received before making it,
-- over all counters." (In the field's words: what it has received is causally closed.)
unfoldable pub caught_up : ℕ → History → Bool
caught_up i h = all_of (λ m. all_of (has (ids (h.received i))) m.before) (h.received i)

-- how many increments of counter q a message is; is it a clear of q?
abbrev pub increments_of : ℕ → Sent → ℕ
increments_of q m = cond (eqb m.counter q) m.amount 0

abbrev pub clear_of : ℕ → Sent → Bool
clear_of q m = m.clears && eqb m.counter q

-- Is m cleared on card i in the plain sense: is there a "received clear of that counter .. made by a card that had received the increment earlier"?
unfoldable pub plainly_cleared : ℕ → ℕ → History → Sent → Bool
plainly_cleared q i h m = some_of (λ d. clear_of q d && has d.before m.id) (h.received i)

-- "the number of received increments for which no received clear of that counter was made by a card that had received the increment earlier"
unfoldable pub plain_value : ℕ → ℕ → History → ℕ
plain_value q i h = total (λ m. cond (plainly_cleared q i h m) 0 (increments_of q m)) (h.received i)
