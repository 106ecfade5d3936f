-- DEFINITIONS. What the tests of `Acceptance` say in plain numbers: a well-formed row but for its bit (refusal 2) and a plausible message (refusal 10).
-- `most` is MAX in the specification.
use Rattle.std.specs.Prelude.{ℕ, ◌+◌, ◌≤◌, ◌<◌, ◌≡◌, Bool, true, false, List, [], ◌∷◌}
use Rattle.protocol.specs.Entry.{Entry}
use Rattle.protocol.specs.Chassis.{Message, increment, clearing, ClearEntry}

-- "each entry of the counter is absent or has 1 <= p <= c <= MAX and n <= p": where p is 0, all three numbers are
pub record WellFormed (most : ℕ) (e : Entry) : Type 0 where
  pub n≤p : e.n ≤ e.p
  pub p≤c : e.p ≤ e.c
  pub c≤most : e.c ≤ most
  pub absent_whole : e.p ≡ 0 → e.c ≡ 0

-- One counter's row on a card `own`, of the cards below r.
pub record WellFormedRow (most r own : ℕ) (C N : ℕ → ℕ) (row : ℕ → Entry) : Type 0 where
  -- "A row is well-formed when all C[j] <= MAX and N[j] <= MAX"
  pub C≤MAX : (j : ℕ) → j < r → C j ≤ most
  pub N≤MAX : (j : ℕ) → j < r → N j ≤ most
  -- "each entry of the counter is absent or has 1 <= p <= c <= MAX and n <= p"
  pub entry : (j : ℕ) → j < r → WellFormed most (row j)
  -- "and the card's own entry has c <= its own C."
  pub own≤C : (row own).c ≤ C own

-- "A clear is implausible when its entry for the receiving card or for the sender has c above the receiver's C of that card."
-- i receives, s sends, and C is i's.
abbrev pub PlausibleEntries : ℕ → ℕ → (ℕ → ℕ) → List ClearEntry → Type 0
PlausibleEntries i s C [] = Unit {0}
PlausibleEntries i s C (t ∷ ts) = ((t.card ≡ i → t.c ≤ C i) × (t.card ≡ s → t.c ≤ C s)) × PlausibleEntries i s C ts

-- "An increment is plausible when p = C[j] + w with start, or w < p <= C[j] + w without, and C[j] + w <= MAX in both"
abbrev pub PlausibleIncrement : ℕ → ℕ → ℕ → ℕ → Bool → Type 0
PlausibleIncrement most known w p true = (p ≡ known + w) × (known + w ≤ most)
PlausibleIncrement most known w p false = (w < p) × (p ≤ known + w) × (known + w ≤ most)

abbrev pub Plausible : ℕ → ℕ → ℕ → (ℕ → ℕ) → Message → Type 0
Plausible most i s C (increment q w p start) = PlausibleIncrement most (C s) w p start
Plausible most i s C (clearing q ts) = PlausibleEntries i s C ts
