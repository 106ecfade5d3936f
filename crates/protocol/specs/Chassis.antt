-- DEFINITIONS. One card's replica (SPECIFICATION 3), its messages, and the chassis of replicas joined by logs: "Count, clear, take, read" and
-- "Chassis", as tables over card and counter numbers. No offset, no byte and no bound is fixed here: q is any number, w any amount.
-- Refusals for a reason that the theory need not know (3, 4, 14: the counter's range, MAX, the log's length) are steps that are not `willing`;
-- what the theory needs of an accepted step is `enabled`. So what is proved holds for every way of declining.
use Rattle.std.specs.Prelude.{ℕ, zero, suc, ◌+◌, ◌-◌, Bool, not, cond, ◌&&◌, List, [], ◌∷◌, ◌++◌, eqb, ltb, get_or}
use Rattle.protocol.specs.Functions.{put, sum, bits}
use Rattle.protocol.specs.Entry.{Entry, absent, present, incremented, cleared, count_starts, count_p}
use Rattle.protocol.specs.Ledger.{Step, count, clear, deliver}
pub use Rattle.protocol.specs.declared.ClearEntry.{ClearEntry}

-- ---- one card

-- "C[j] for each card j (units received from j on all counters, an increment by w being w units); then N[j] (messages received from j); then, counter by
-- counter, one entry (p, n, c) for each card."
pub record Replica : Type 0 where
  -- by counter, then by card
  pub entry : ℕ → ℕ → Entry
  pub C : ℕ → ℕ
  pub N : ℕ → ℕ

-- "A fresh replica has zeros after its first three words"
abbrev pub fresh_replica : Replica
fresh_replica = record { entry = λ q j. absent; C = λ j. 0; N = λ j. 0 }

-- an increment: counter, amount, p, start; a clear: counter, entries
pub data Message : Type 0 where
  increment : ℕ → ℕ → ℕ → Bool → Message
  clearing : ℕ → List ClearEntry → Message

abbrev pub no_message : Message
no_message = clearing 0 []

-- the counter of a message; how many increments it is
abbrev pub counter_of : Message → ℕ
counter_of (increment k w p start) = k
counter_of (clearing k ts) = k

abbrev pub units_of : Message → ℕ
units_of (increment k w p start) = w
units_of (clearing k ts) = 0

-- "Count by w: with M[i] absent, send p = C[i] + w with start; else p = M[i].p + w without." (Algorithm 1, lines 12 to 16)
unfoldable pub count_message : ℕ → ℕ → ℕ → Replica → Message
count_message i q w b = increment q w (count_p w (b.C i) (b.entry q i)) (count_starts (b.entry q i))

-- "Clear: send every present entry's (j, p, c)" (lines 28 and 29), the cards rising
unfoldable pub present_entries : ℕ → (ℕ → Entry) → List ClearEntry
present_entries zero row = []
present_entries (suc r) row = present_entries r row ++ cond (present (row r)) (record { card = r; p = (row r).p; c = (row r).c } ∷ []) []

unfoldable pub clear_message : ℕ → ℕ → Replica → Message
clear_message r q b = clearing q (present_entries r (b.entry q))

-- "Clear taken, for each (j, p, c):" (line 31)
unfoldable pub cleared_row : (ℕ → ℕ) → List ClearEntry → (ℕ → Entry) → ℕ → Entry
cleared_row C [] row = row
cleared_row C (t ∷ ts) row = cleared_row C ts (put t.card (cleared t.p t.c (C t.card) (row t.card)) row)

-- A card takes a message of card s, or its own: "A card's own messages count as received when made."
unfoldable pub taken : ℕ → Message → Replica → Replica
-- "Increment from j: .. C[j] becomes c." (lines 17 to 26) "Each message raises the sender's N by one."
taken s (increment q w p start) b = record {
  entry = put q (put s (incremented w p start (b.C s) (b.entry q s)) (b.entry q)) b.entry;
  C = put s (b.C s + w) b.C;
  N = put s (suc (b.N s)) b.N;
}
-- a clear (lines 30 to 38)
taken s (clearing q ts) b = record {
  entry = put q (cleared_row b.C ts (b.entry q)) b.entry;
  C = b.C;
  N = put s (suc (b.N s)) b.N;
}

-- "Read: the value (sum of p - n)" (lines 9 and 10)
unfoldable pub read_value : ℕ → ℕ → Replica → ℕ
read_value r q b = sum r (λ j. (b.entry q j).p - (b.entry q j).n)

-- "Bit j of the holder set is one if M[j] is present"
unfoldable pub read_holders : ℕ → ℕ → Replica → ℕ
read_holders r q b = bits r (λ j. present (b.entry q j))

-- ---- the chassis

pub record Chassis : Type 0 where
  pub replica : ℕ → Replica
  pub log : ℕ → List Message

-- "All replicas begin fresh."
abbrev pub fresh_chassis : Chassis
fresh_chassis = record { replica = λ i. fresh_replica; log = λ i. [] }

-- "A message made is appended to its card's L bytes, right after that card's earlier ones"; "Apply it to the own replica in the same call."
unfoldable pub issued : ℕ → Message → Chassis → Chassis
issued i m st = record { replica = put i (taken i m (st.replica i)) st.replica; log = put i (st.log i ++ m ∷ []) st.log }

-- "Deliver takes the sender's message number N + 1, N being the receiver's."
unfoldable pub delivered : ℕ → ℕ → Chassis → Chassis
delivered i s st = record { replica = put i (taken s (get_or (st.log s) ((st.replica i).N s) no_message) (st.replica i)) st.replica; log = st.log }

-- "1 count (card, counter), 2 clear (card, counter), 3 deliver (receiver, sender)"
unfoldable pub done : ℕ → Step → Chassis → Chassis
done r (count i q w) st = issued i (count_message i q w (st.replica i)) st
done r (clear i q) st = issued i (clear_message r q (st.replica i)) st
done r (deliver i s) st = delivered i s st

-- What an accepted step has: cards below r, an amount, another card's message that waits.
-- "One waits exactly when the sender's own N is above the receiver's N of that sender"
unfoldable pub enabled : ℕ → Step → Chassis → Bool
enabled r (count i q w) st = ltb i r && ltb 0 w
enabled r (clear i q) st = ltb i r
enabled r (deliver i s) st = ltb i r && (ltb s r && (not (eqb i s) && ltb ((st.replica i).N s) ((st.replica s).N s)))

-- a step, and whether nothing else speaks against it
pub record Offer : Type 0 where
  pub step : Step
  pub willing : Bool

abbrev pub accepted : ℕ → Offer → Chassis → Bool
accepted r o st = o.willing && enabled r o.step st

-- "An accepted step answers 0; after a declined one the run goes on."
unfoldable pub stepped : ℕ → Offer → Chassis → Chassis
stepped r o st = cond (accepted r o st) (done r o.step st) st

-- a run: the chassis after a list of steps, and which of them were accepted
unfoldable pub run : ℕ → List Offer → Chassis → Chassis
run r [] st = st
run r (o ∷ os) st = run r os (stepped r o st)

unfoldable pub answers : ℕ → List Offer → Chassis → List Bool
answers r [] st = []
answers r (o ∷ os) st = accepted r o st ∷ answers r os (stepped r o st)
