-- DEFINITIONS. A replica that is kept in words, by accessors and setters (laws tie them: `Lawful` of `StoreLaws`). No offset appears here, so a layout with
-- more head words, or with rows found by key, is another store and no other proof. A row is addressed by its index, whatever counter a message names.
use Rattle.std.specs.Prelude.{ℕ, suc, ◌+◌, ◌<◌, ◌≡◌, Bool, List, [], ◌∷◌}
use Rattle.protocol.specs.Entry.{Entry, has_entry, incremented, cleared}
use Rattle.protocol.specs.Chassis.{Message, increment, clearing, ClearEntry, Replica}

-- Where a replica is kept: what its words are and when they are such as it takes, its head (what is written once), accessors and setters; and for each row a
-- bit that says whether it has an entry, with `mark`, which sets it by the row's entries.
pub record Store : Type 1 where
  pub Words : Type 0
  pub Fits : Words → Type 0
  pub Head : Type 0
  pub head : Words → Head
  -- by row, then by card
  pub entry : Words → ℕ → ℕ → Entry
  pub C : Words → ℕ → ℕ
  pub N : Words → ℕ → ℕ
  pub active : Words → ℕ → Bool
  pub set_entry : ℕ → ℕ → Entry → Words → Words
  pub set_C : ℕ → ℕ → Words → Words
  pub set_N : ℕ → ℕ → Words → Words
  pub mark : ℕ → Words → Words

module _ (S : Store) where
  -- Taking a message of card s in row q, over the accessors. The row's bit then follows its entries.
  unfoldable pub cleared_words : ℕ → List ClearEntry → S.Words → S.Words
  cleared_words q [] ws = ws
  cleared_words q (t ∷ ts) ws =
      cleared_words q ts (S.set_entry q t.card (cleared t.p t.c (S.C ws t.card) (S.entry ws q t.card)) ws)

  unfoldable pub taken_words : ℕ → ℕ → Message → S.Words → S.Words
  taken_words q s (increment c w p start) ws =
      S.set_N s (suc (S.N ws s))
      (S.set_C s (S.C ws s + w) (S.mark q (S.set_entry q s (incremented w p start (S.C ws s) (S.entry ws q s)) ws)))
  taken_words q s (clearing c ts) ws = S.set_N s (suc (S.N ws s)) (S.mark q (cleared_words q ts ws))

  -- the replica that the words show
  unfoldable pub shown : S.Words → Replica
  shown ws = record { entry = S.entry ws; C = S.C ws; N = S.N ws }

  -- within r cards and k rows, the words show replica b
  pub record Shows (r k : ℕ) (ws : S.Words) (b : Replica) : Type 0 where
    pub fits : S.Fits ws
    pub entries : (q j : ℕ) → q < k → j < r → S.entry ws q j ≡ b.entry q j
    pub Cs : (j : ℕ) → j < r → S.C ws j ≡ b.C j
    pub Ns : (j : ℕ) → j < r → S.N ws j ≡ b.N j

  -- row q's bit says whether it has an entry, of the cards below r
  abbrev pub Marked : ℕ → S.Words → ℕ → Type 0
  Marked r ws q = S.active ws q ≡ has_entry r (S.entry ws q)
