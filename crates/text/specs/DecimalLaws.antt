-- LAWS. What the contracts of the digit writer's functions cite: how many digits a number has, and its last ones.
use Rattle.std.specs.Prelude.{ℕ, zero, suc, ◌-◌, ◌/◌, ◌%◌, ◌^◌, ◌≤◌, ◌<◌, List, [], ◌∷◌, ◌++◌}
use Rattle.text.specs.Decimal.{digit}

-- x has `count` decimal digits
pub record Counted (x count : ℕ) : Type 0 where
  pub some : 1 ≤ count
  pub below : x < 10 ^ count
  pub full : 2 ≤ count → 10 ^ (count - 1) ≤ x

-- the last `count` decimal digits of x
unfoldable pub fixed : ℕ → ℕ → List ℕ
fixed zero x = []
fixed (suc count) x = fixed count (x / 10) ++ digit (x % 10) ∷ []
