-- LAWS. What loops over the cards add up: one turn of a sum, what of a row's entries is held and its bound, and a test as a number.
use Rattle.std.specs.Prelude.{◌≡◌, ℕ, zero, suc, ◌+◌, ◌-◌, ◌*◌, ◌<◌, ◌≤◌, Bool, true, false, cond, refl}
use Rattle.std.proofs.Common.{suc-mul, add-one, arith}
use mir.Val.{bool_byte}
use Rattle.protocol.specs.Limits.{MAX}
use Rattle.protocol.proofs.Tables.{sum}
use Rattle.protocol.specs.declared.Entry.{Entry}
use Rattle.protocol.specs.Rows.{WellFormed}

pub sum_turn : (n : ℕ) (f : ℕ → ℕ) → sum n f + f n ≡ sum (n + 1) f
unfolding sum
sum_turn n f = rw (add-one n)

sum_below : (n m : ℕ) (f : ℕ → ℕ) → ((j : ℕ) → j < n → f j ≤ m) → sum n f ≤ n * m
unfolding sum
sum_below zero m f small = omega arith
sum_below (suc n) m f small = omega (arith, suc-mul n m, small n (omega arith), sum_below n m f (λ j l. small j (omega arith)))

-- what of card j's entry of a row is held, as the sums of a row's value have it
abbrev pub held : (ℕ → Entry) → ℕ → ℕ
held row j = (row j).p - (row j).n

pub held_below : (row : ℕ → Entry) (n : ℕ) → ((j : ℕ) → j < n → WellFormed MAX (row j)) → sum n (held row) ≤ n * MAX
held_below row n well = sum_below n MAX (held row) (λ j l. let e = well j l in omega arith)

pub flag_is : (t : Bool) → bool_byte t ≡ cond t 1 0
flag_is true = refl
flag_is false = refl

pub flag_small : (t : Bool) → bool_byte t ≤ 1
flag_small true = omega arith
flag_small false = omega arith
