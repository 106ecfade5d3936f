-- DEFINITIONS. Functions of a number (a card, a counter): one place changed; the sum of the first n places, the first n places as bits, whether a test holds of
-- all of them, of any and of how many. And a number's bits: one of them, and the number with another one there.
use Rattle.std.specs.Prelude.{ℕ, zero, suc, ◌+◌, ◌*◌, ◌/◌, ◌%◌, ◌^◌, Bool, true, false, cond, ◌&&◌, ◌||◌, eqb}
use Rattle.std.specs.Bool.{beq}

-- v at k, and f elsewhere
unfoldable pub put {ℓ} : {A : Type ℓ} → ℕ → A → (ℕ → A) → ℕ → A
put k v f i = cond (eqb i k) v (f i)

-- f 0 + .. + f (n - 1)
unfoldable pub sum : ℕ → (ℕ → ℕ) → ℕ
sum zero f = 0
sum (suc n) f = sum n f + f n

-- the number whose bit j is one if f j is true, for j below n
unfoldable pub bits : ℕ → (ℕ → Bool) → ℕ
bits n f = sum n (λ j. cond (f j) (2 ^ j) 0)

-- are two truth values the same?
abbrev pub agrees : Bool → Bool → Bool
agrees s t = beq s t

-- is bit j of x one?
unfoldable pub bit : ℕ → ℕ → Bool
bit x j = eqb (x / 2 ^ j % 2) 1

-- x with bit j one if t is true and zero if not: what stands above it, the bit, and what stands below
unfoldable pub with_bit : ℕ → Bool → ℕ → ℕ
with_bit j t x = x / 2 ^ (1 + j) * 2 ^ (1 + j) + (cond t (2 ^ j) 0 + x % 2 ^ j)

-- does f hold of every number below n, of any, and of how many?
unfoldable pub all_below : ℕ → (ℕ → Bool) → Bool
all_below zero f = true
all_below (suc n) f = all_below n f && f n

unfoldable pub any_below : ℕ → (ℕ → Bool) → Bool
any_below zero f = false
any_below (suc n) f = any_below n f || f n

unfoldable pub count_below : ℕ → (ℕ → Bool) → ℕ
count_below zero f = 0
count_below (suc n) f = count_below n f + cond (f n) 1 0
