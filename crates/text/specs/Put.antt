-- DEFINITIONS. Text written into lent bytes.
use Rattle.std.specs.Prelude.{ℕ, ◌+◌, ◌≤◌, ◌≡◌, List, length}
use Rattle.std.proofs.lemmas.List.Edits.{sets}
use Rattle.text.specs.declared.Output.{Output}

-- `bytes` stored from `at` on, and nothing else; `behind` is the place behind them, at most `most` further
pub record Put (most : ℕ) (before : List ℕ) (at : ℕ) (bytes after : List ℕ) (behind : ℕ) : Type 0 where
  pub stored : after ≡ sets before at bytes
  pub next : behind ≡ at + length bytes
  pub short : behind ≤ at + most

-- how many digits the numbers that are written may have: "every number below 10^16"
abbrev pub most_digits : ℕ
most_digits = 16

-- the bytes of an output are still those that were lent, and as many
abbrev pub SameBytes : Output → Output → Type 0
SameBytes before after = (after.bytes.ghost_name ≡ before.bytes.ghost_name) × (length after.bytes.now ≡ length before.bytes.now)
