-- DEFINITIONS. The terms in which the claims on the calls are stated (`Claims`): right and well-formed in plain numbers; what it is for a replica to have taken a message as
-- Algorithm 1 has it, which words that moves and which it leaves; a message that can be written.
use Rattle.std.specs.Prelude.{ℕ, ◌+◌, ◌^◌, ◌≤◌, ◌<◌, ◌≡◌, ◌≢◌, List, [], ◌∷◌, true, length}
use Rattle.protocol.specs.Limits.{MAX, most_cards, most_counters, bad_replica, unreadable}
use Rattle.protocol.specs.Checks.{or_else, AllPass}
use Rattle.protocol.specs.declared.ClearEntry.{ClearEntry}
use Rattle.protocol.specs.Entry.{absent}
use Rattle.protocol.specs.Rows.{WellFormedRow}
use Rattle.protocol.specs.Chassis.{Message, increment, clearing, taken, counter_of, units_of}
use Rattle.protocol.specs.Store.{Shows, Marked}
use Rattle.wire.specs.declared.Message as wire
use Rattle.wire.specs.Message.{version_2, message_at, message_bytes, in_range, reads, longest_message}
use Rattle.replica_model.specs.Layout.{cards, counters, own_card, head_of, replica_length, active_word, active_of, C_of, N_of, entry_of, layout}
use Rattle.replica_model.specs.Format.{format_2, on_wire}
use Rattle.replica_model.specs.Calls.{right, state, row_well_formed, read_on, address_checks}

-- ---- right and well-formed, in plain numbers

-- "r cards, 1 to 12; k counters, 1 to 64"
pub record Sizes (r k : ℕ) : Type 0 where
  pub some_cards : 1 ≤ r
  pub few_cards : r ≤ most_cards
  pub some_counters : 1 ≤ k
  pub few_counters : k ≤ most_counters

-- sizes in range, the own card among the cards, the words as many as a replica takes, and no bit for a counter that is not there
pub record Right (b : List ℕ) : Type 0 where
  pub sizes : Sizes (cards b) (counters b)
  pub own : own_card b < cards b
  pub fits : length b ≡ replica_length (cards b) (counters b)
  pub low : active_word b < 2 ^ counters b

-- "bit q is one exactly when counter q's row has an entry"
abbrev pub MarkedIn : List ℕ → ℕ → Type 0
MarkedIn b q = Marked (layout (cards b) (counters b)) (cards b) b q

-- counter q's row in the words, and its bit
pub record RowOf (b : List ℕ) (q : ℕ) : Type 0 where
  pub tables : WellFormedRow MAX (cards b) (own_card b) (C_of b) (N_of (cards b) b) (entry_of (cards b) b q)
  pub marked : MarkedIn b q

-- "the counter's r entries are all zeros"; C and N are not part of that
abbrev pub AllZeros : List ℕ → ℕ → Type 0
AllZeros b q = (j : ℕ) → j < cards b → entry_of (cards b) b q j ≡ absent

-- bytes that pass every check of take before the sequence is looked at: 1, 6, 3, 2 and 7
abbrev pub Addressed : List ℕ → List ℕ → Type 0
Addressed b bytes = AllPass (or_else (right b) bad_replica ∷ or_else (reads version_2 bytes) unreadable ∷ address_checks b (format_2.received bytes))

-- the own card's next message on the wire
abbrev pub sent_as : List ℕ → Message → wire.Message
sent_as b m = on_wire (own_card b) (N_of (cards b) b (own_card b) + 1) m

-- ---- what a message does

-- card s's message m, taken by the replica b: the head and the length stay, every entry, C and N is what Algorithm 1's step gives, the row's bit then says whether it has
-- an entry, and no other bit moves
pub record Performed (b : List ℕ) (s : ℕ) (m : Message) (after : List ℕ) : Type 0 where
  pub same_head : head_of after ≡ head_of b
  pub shows : Shows (layout (cards b) (counters b)) (cards b) (counters b) after (taken s m (state b))
  pub marked : Marked (layout (cards b) (counters b)) (cards b) after (counter_of m)
  pub other_bits : (q : ℕ) → q ≢ counter_of m → active_of after q ≡ active_of b q

-- card j's entry is none that card s's message m speaks of
abbrev pub NotAmong : ℕ → List ClearEntry → Type 0
NotAmong j [] = Unit {0}
NotAmong j (t ∷ ts) = (j ≢ t.card) × NotAmong j ts

abbrev pub NotNamed : ℕ → ℕ → Message → Type 0
NotNamed j s (increment q w p start) = j ≢ s
NotNamed j s (clearing q ts) = NotAmong j ts

-- the sender's N rises by one, its C by the amount of an increment; no other C and N moves, no other counter's entry and no other counter's bit, and of the message's counter no entry that it does not name
pub record OnlyMoves (b : List ℕ) (s : ℕ) (m : Message) (after : List ℕ) : Type 0 where
  pub N_rises : N_of (cards b) after s ≡ N_of (cards b) b s + 1
  pub C_rises : C_of after s ≡ C_of b s + units_of m
  pub other_N : (j : ℕ) → j < cards b → j ≢ s → N_of (cards b) after j ≡ N_of (cards b) b j
  pub other_C : (j : ℕ) → j < cards b → j ≢ s → C_of after j ≡ C_of b j
  pub other_rows : (q j : ℕ) → q < counters b → j < cards b → q ≢ counter_of m → entry_of (cards b) after q j ≡ entry_of (cards b) b q j
  pub other_entries : (j : ℕ) → j < cards b → NotNamed j s m → entry_of (cards b) after (counter_of m) j ≡ entry_of (cards b) b (counter_of m) j
  pub other_bits : (q : ℕ) → q ≢ counter_of m → active_of after q ≡ active_of b q

-- what was right and well-formed is so afterwards
pub record Keeps (b after : List ℕ) : Type 0 where
  pub right_kept : right b ≡ true → right after ≡ true
  pub rows_kept : (q : ℕ) → q < counters b → row_well_formed b q ≡ true → row_well_formed after q ≡ true

-- a call on counter q leaves the words and the bit of every other row, well-formed or not, and the whole answer of read for every other counter whose row was well-formed
pub record Isolates (b : List ℕ) (q : ℕ) (after : List ℕ) : Type 0 where
  pub rows_stay : (q' j : ℕ) → q' < counters b → j < cards b → q' ≢ q → entry_of (cards b) after q' j ≡ entry_of (cards b) b q' j
  pub bits_stay : (q' : ℕ) → q' ≢ q → active_of after q' ≡ active_of b q'
  pub reads_stay : (q' : ℕ) → q' < counters b → q' ≢ q → row_well_formed b q' ≡ true → read_on after q' ≡ read_on b q'

-- a message that can be written, in `size` bytes of version 2 that read as itself: in range, and with a place for every card's entry
pub record Writable (x : wire.Message) (size : ℕ) : Type 0 where
  pub ranges : in_range x ≡ true
  pub whole : length x.entries ≡ most_cards
  pub long : length (message_bytes x) ≡ size
  pub short : size ≤ longest_message
  pub reads_well : reads version_2 (message_bytes x) ≡ true
  pub reads_same : message_at version_2 (message_bytes x) ≡ x
