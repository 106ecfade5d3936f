-- DEFINITIONS. The replicas that the calls of one card reach from a fresh one, and the set of counters that reading every row finds.
use Rattle.std.specs.Prelude.{ℕ, not, List, [], ◌∷◌, eqb}
use Rattle.protocol.specs.Functions.{bits}
use Rattle.replica_model.specs.Layout.{counters}
use Rattle.replica_model.specs.Calls.{open_on, read_on, count_on, clear_on, read_and_clear_on, take_on}

-- a call on one card that may change its words, with any arguments; what a read does not change is left out
pub data CardCall : Type 0 where
  opening : (r k own : ℕ) → CardCall
  counting : (q w : ℕ) (out : List ℕ) → CardCall
  clearing : (q : ℕ) (out : List ℕ) → CardCall
  reading_and_clearing : (q : ℕ) (out : List ℕ) → CardCall
  taking : (bytes : List ℕ) → CardCall

-- the words that it leaves, accepted or refused
abbrev pub left_by : CardCall → List ℕ → List ℕ
left_by (opening r k own) b = (open_on b r k own).words
left_by (counting q w out) b = (count_on b q w out).words
left_by (clearing q out) b = (clear_on b q out).words
left_by (reading_and_clearing q out) b = (read_and_clear_on b q out).words
left_by (taking bytes) b = (take_on b bytes).words

unfoldable pub after_calls : List CardCall → List ℕ → List ℕ
after_calls [] b = b
after_calls (c ∷ cs) b = after_calls cs (left_by c b)

-- "the set found by reading all rows": bit q is one where a read of counter q gives holders
unfoldable pub active_by_reading : List ℕ → ℕ
active_by_reading b = bits (counters b) (λ q. not (eqb (read_on b q).holders 0))
