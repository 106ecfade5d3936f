-- DEFINITIONS. A quiet counter as its ledger has it (SPECIFICATION 7): the terms in which the claims on quiet are stated, of a counter's ledger l and a card i.
use Rattle.std.specs.Prelude.{ℕ, ◌≡◌, ◌↔◌, ◌⊎◌, true, false, List, [], ◌∷◌}
use Rattle.protocol.specs.Names.{Name, has}
use Rattle.protocol.specs.Ledger.{Item, Ledger}

-- "that card's received and cancelled sets in the ledger are equal: every name is in one exactly when it is in the other"
abbrev pub EqualSets : ℕ → Ledger → Type 0
EqualSets i l = (n : Name) → (has (l.received i) n ≡ true) ↔ (has (l.cancelled i) n ≡ true)

-- one of the messages is the increment named n
abbrev pub Brings : Name → List Item → Type 0
Brings n [] = ⊥
Brings n (it ∷ its) = (has it.adds n ≡ true) ⊎ Brings n its

-- an increment "that the card has still to receive": a link from another card has still to hand it over to card i
pub record StillToReceive (i : ℕ) (l : Ledger) (n : Name) : Type 0 where
  pub sender : ℕ
  pub another : sender ≡ i → ⊥
  pub on_link : Brings n (l.queue sender i)

-- on card i nothing is cancelled before it comes, and nothing counts
pub record Settled (i : ℕ) (l : Ledger) : Type 0 where
  -- "no increment of it that the card has still to receive is cancelled there already,"
  pub none_ahead : (n : Name) → StillToReceive i l n → has (l.cancelled i) n ≡ false
  -- "and none that it has received is still counted"
  pub none_counts : (n : Name) → has (l.received i) n ≡ true → has (l.cancelled i) n ≡ true

-- "some increment that the card has still to receive is cancelled there already"
pub record CancelledAhead (i : ℕ) (l : Ledger) : Type 0 where
  pub increment : Name
  pub under_way : StillToReceive i l increment
  pub cancelled : has (l.cancelled i) increment ≡ true
