-- DEFINITIONS. What a card asks before it accepts, as tests that compute: a well-formed row but for its bit (refusal 2), the cards of a message (7) and a plausible message
-- (10). They are over tables (C, N and a row of entries, each by card) and Algorithm 1's message, whatever words hold the tables and whatever bytes the message.
use Rattle.std.specs.Prelude.{ℕ, ◌+◌, Bool, true, not, cond, ◌&&◌, ◌||◌, List, [], ◌∷◌, leb, ltb, eqb}
use Rattle.protocol.specs.Limits.{MAX}
use Rattle.protocol.specs.Functions.{all_below}
use Rattle.protocol.specs.Entry.{Entry}
use Rattle.protocol.specs.Chassis.{Message, increment, clearing, ClearEntry}

-- ---- 2: "Row not well-formed"

-- "absent or has 1 <= p <= c <= MAX and n <= p"
unfoldable pub entry_well_formed : Entry → Bool
entry_well_formed e =
    (eqb e.p 0 && eqb e.n 0 && eqb e.c 0) || (leb 1 e.p && leb e.p e.c && leb e.c MAX && leb e.n e.p)

-- "C[j] <= MAX and N[j] <= MAX", and the counter's entry for card j
unfoldable pub card_well_formed : (ℕ → ℕ) → (ℕ → ℕ) → (ℕ → Entry) → ℕ → Bool
card_well_formed C N row j = leb (C j) MAX && leb (N j) MAX && entry_well_formed (row j)

-- "A row is well-formed when all C[j] <= MAX and N[j] <= MAX, each entry of the counter is absent or .. and the card's own entry has c <= its own C."
unfoldable pub tables_well_formed : ℕ → ℕ → (ℕ → ℕ) → (ℕ → ℕ) → (ℕ → Entry) → Bool
tables_well_formed r own C N row = all_below r (card_well_formed C N row) && leb (row own).c (C own)

-- ---- 7: "Sender or entry card not below r, or sender is the own card"

unfoldable pub all_entries : (ClearEntry → Bool) → List ClearEntry → Bool
all_entries f [] = true
all_entries f (e ∷ es) = f e && all_entries f es

-- the entries that a message has
abbrev pub entries_of : Message → List ClearEntry
entries_of (increment q w p start) = []
entries_of (clearing q es) = es

unfoldable pub cards_known : ℕ → ℕ → ℕ → Message → Bool
cards_known r own sender m = ltb sender r && not (eqb sender own) && all_entries (λ e. ltb e.card r) (entries_of m)

-- ---- 10: "Implausible message"; C is the receiver's, `own` the receiving card

-- "An increment is plausible when p = C[j] + w with start, or w < p <= C[j] + w without, and C[j] + w <= MAX in both"; C is the sender's
unfoldable pub increment_plausible : ℕ → ℕ → ℕ → Bool → Bool
increment_plausible C w p start = cond start (eqb p (C + w)) (ltb w p && leb p (C + w)) && leb (C + w) MAX

-- "A clear is implausible when its entry for the receiving card or for the sender has c above the receiver's C of that card"
unfoldable pub entry_plausible : (ℕ → ℕ) → ℕ → ℕ → ClearEntry → Bool
entry_plausible C own sender e = not ((eqb e.card own || eqb e.card sender) && ltb (C e.card) e.c)

unfoldable pub plausible : (ℕ → ℕ) → ℕ → ℕ → Message → Bool
plausible C own sender (increment q w p start) = increment_plausible (C sender) w p start
plausible C own sender (clearing q es) = all_entries (entry_plausible C own sender) es
