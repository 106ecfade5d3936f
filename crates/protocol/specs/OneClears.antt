-- DEFINITIONS. A counter that one card alone clears: h is the card and q the counter.
use Rattle.std.specs.Prelude.{ℕ, ◌≡◌, Bool, true, false, ◌&&◌, List, [], ◌∷◌, eqb}
use Rattle.protocol.specs.Ledger.{Step, count, clear, deliver}

-- a step that clears q is by card h
abbrev pub ClearedBy : ℕ → ℕ → Step → Type 0
ClearedBy h q (count i c w) = Unit {0}
ClearedBy h q (clear i c) = c ≡ q → i ≡ h
ClearedBy h q (deliver i s) = Unit {0}

-- of the list's steps, those that were accepted
abbrev pub OneClears : ℕ → ℕ → List Step → List Bool → Type 0
OneClears h q [] fs = Unit {0}
OneClears h q (s ∷ ss) [] = Unit {0}
OneClears h q (s ∷ ss) (a ∷ fs) = (a ≡ true → ClearedBy h q s) × OneClears h q ss fs

-- is the step a clear of q by card h?
unfoldable pub is_clear : ℕ → ℕ → Step → Bool
is_clear h q (count i c w) = false
is_clear h q (clear i c) = eqb i h && eqb c q
is_clear h q (deliver i s) = false
