-- DEFINITIONS. One card's replica (SPECIFICATION 3) as a list of words: the only file that knows where a word stands.
-- "4 + 2r + 3rk words: r, k, own card; then one word of bits, the active counters; then C[j] for each card j .. then N[j] .. then, counter by counter, one entry (p, n, c) for each card."
use Rattle.std.specs.Prelude.{ℕ, ◌+◌, ◌*◌, ◌^◌, ◌<◌, ◌≡◌, Bool, List, [], ◌∷◌, ◌++◌, length, get_or, set, replicate}
use Rattle.protocol.specs.Functions.{bit, with_bit}
use Rattle.protocol.specs.declared.Entry.{Entry}
use Rattle.protocol.specs.Entry.{has_entry}
use Rattle.protocol.specs.Store.{Store}

-- "r, k, own card": the words that open writes and no other call
pub record Head : Type 0 where
  pub cards : ℕ
  pub counters : ℕ
  pub own_card : ℕ

abbrev pub head_of : List ℕ → Head
head_of b = record { cards = get_or b 0 0; counters = get_or b 1 0; own_card = get_or b 2 0 }

abbrev pub head_words : Head → List ℕ
head_words h = h.cards ∷ h.counters ∷ h.own_card ∷ []

-- "then one word of bits, the active counters": right behind them
abbrev pub at_active : ℕ
at_active = 3

-- how many words stand before C
abbrev pub head_length : ℕ
head_length = 4

abbrev pub cards : List ℕ → ℕ
cards b = (head_of b).cards

abbrev pub counters : List ℕ → ℕ
counters b = (head_of b).counters

abbrev pub own_card : List ℕ → ℕ
own_card b = (head_of b).own_card

abbrev pub replica_length : ℕ → ℕ → ℕ
replica_length r k = head_length + 2 * r + 3 * (r * k)

abbrev pub at_C : ℕ → ℕ
at_C j = head_length + j

abbrev pub at_N : ℕ → ℕ → ℕ
at_N r j = head_length + r + j

-- which of all the entries is row q's for card j; the first of its three words
abbrev pub cell : ℕ → ℕ → ℕ → ℕ
cell r q j = q * r + j

abbrev pub at_entry : ℕ → ℕ → ℕ → ℕ
at_entry r q j = head_length + 2 * r + 3 * cell r q j

-- ---- The active counters, C[j], N[j] and the entry of row q for card j, in a replica of r cards. Row q is counter q's.

abbrev pub active_word : List ℕ → ℕ
active_word b = get_or b at_active 0

-- "bit q is one"
abbrev pub active_of : List ℕ → ℕ → Bool
active_of b q = bit (active_word b) q

abbrev pub C_of : List ℕ → ℕ → ℕ
C_of b j = get_or b (at_C j) 0

abbrev pub N_of : ℕ → List ℕ → ℕ → ℕ
N_of r b j = get_or b (at_N r j) 0

abbrev pub entry_from : List ℕ → ℕ → Entry
entry_from b at = record { p = get_or b at 0; n = get_or b (at + 1) 0; c = get_or b (at + 2) 0 }

abbrev pub entry_of : ℕ → List ℕ → ℕ → ℕ → Entry
entry_of r b q j = entry_from b (at_entry r q j)

-- ---- the replica with another value there

abbrev pub set_C : ℕ → ℕ → List ℕ → List ℕ
set_C j v b = set b (at_C j) v

abbrev pub set_N : ℕ → ℕ → ℕ → List ℕ → List ℕ
set_N r j v b = set b (at_N r j) v

abbrev pub set_three : List ℕ → ℕ → ℕ → ℕ → ℕ → List ℕ
set_three b at x y z = set (set (set b at x) (at + 1) y) (at + 2) z

abbrev pub set_entry : ℕ → ℕ → ℕ → Entry → List ℕ → List ℕ
set_entry r q j e b = set_three b (at_entry r q j) e.p e.n e.c

abbrev pub set_active : ℕ → Bool → List ℕ → List ℕ
set_active q t b = set b at_active (with_bit q t (active_word b))

-- "bit q is one exactly when counter q's row has an entry"
abbrev pub mark : ℕ → ℕ → List ℕ → List ℕ
mark r q b = set_active q (has_entry r (entry_of r b q)) b

-- as many words as a replica takes, and no bit for a counter that is not there
pub record Fits (r k : ℕ) (b : List ℕ) : Type 0 where
  pub long : length b ≡ replica_length r k
  pub low : active_word b < 2 ^ k

-- the words as a store of replicas of r cards and k counters
abbrev pub layout : ℕ → ℕ → Store
layout r k = record {
  Words = List ℕ;
  Fits = Fits r k;
  Head = Head;
  head = head_of;
  entry = entry_of r;
  C = C_of;
  N = N_of r;
  active = active_of;
  set_entry = set_entry r;
  set_C = set_C;
  set_N = set_N r;
  mark = mark r;
}

-- "A fresh replica has zeros after its first three words."
abbrev pub fresh_head : ℕ → ℕ → ℕ → Head
fresh_head r k own = record { cards = r; counters = k; own_card = own }

unfoldable pub fresh_words : ℕ → ℕ → ℕ → List ℕ
fresh_words r k own = head_words (fresh_head r k own) ++ replicate (1 + 2 * r + 3 * (r * k)) 0
