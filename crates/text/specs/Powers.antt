-- LAWS. The rule of a table of powers of ten, as a test, and what it says of each entry.
use Rattle.std.specs.Prelude.{ℕ, zero, suc, ◌+◌, ◌-◌, ◌*◌, ◌^◌, ◌≤◌, ◌<◌, ◌≡◌, Bool, true, false, ◌&&◌, List, [], ◌∷◌, eqb, length, get_or, drop}
use Rattle.std.proofs.lemmas.Bool.{false≢true}
use Rattle.std.proofs.Common.{pow-suc, le_of_lt, not-suc-le-zero, sub-one, arith, lit<}
use Rattle.std.proofs.Math.Nat.{pow-le-pow_right}
use Rattle.protocol.proofs.Tests.{tests}
use Rattle.text.specs.Put.{most_digits}

-- each entry is ten times the next, and the last is 1
unfoldable pub tens : List ℕ → Bool
tens [] = false
tens (p ∷ []) = eqb p 1
tens (p ∷ q ∷ table) = eqb p (10 * q) && tens (q ∷ table)

-- so an entry is the power of as many as stand behind it
tens_at : (table : List ℕ) (place behind : ℕ) → tens table ≡ true → suc (place + behind) ≡ length table → get_or table place 0 ≡ 10 ^ behind
unfolding tens
tens_at [] place behind h long = absurd (false≢true h)
tens_at (p ∷ []) zero behind h long = let none : behind ≡ 0 = omega arith in rw none (simp tests at h)
tens_at (p ∷ []) (suc place) behind h long = absurd (omega arith)
tens_at (p ∷ q ∷ table) zero behind h long =
    let f = simp tests at h in
    let all : behind ≡ suc (length table) = omega arith in
    rw (all, pow-suc) (omega (arith, f.0, tens_at (q ∷ table) 0 (length table) f.1 (omega arith)))
tens_at (p ∷ q ∷ table) (suc place) behind h long = let f = simp tests at h in tens_at (q ∷ table) place behind f.1 (omega arith)

-- of a table of any length: the power of as many as stand behind it
pub entry_is : (table : List ℕ) (place : ℕ) → tens table ≡ true → place < length table → get_or table place 0 ≡ 10 ^ (length table - place - 1)
entry_is table place right inside = tens_at table place (length table - place - 1) right (omega arith)

-- the last entries of a table are one
pub tens_drop : (table : List ℕ) (n : ℕ) → tens table ≡ true → n < length table → tens (drop n table) ≡ true
unfolding tens
tens_drop [] n h some = absurd (false≢true h)
tens_drop (p ∷ table) zero h some = h
tens_drop (p ∷ []) (suc n) h some = absurd (omega arith)
tens_drop (p ∷ q ∷ table) (suc n) h some = let f = simp tests at h in tens_drop (q ∷ table) n f.1 (omega arith)

-- a table of as many powers as a number may have digits
abbrev pub PowersOfTen : List ℕ → Type 0
PowersOfTen table = (tens table ≡ true) × (length table ≡ most_digits)

pub power_at : (table : List ℕ) (n : ℕ) → PowersOfTen table → n < most_digits → get_or table (most_digits - 1 - n) 0 ≡ 10 ^ n
power_at table n right few = tens_at table (most_digits - 1 - n) n right.0 (omega (arith, right.1))

-- ---- the powers that the digits of a number are taken by

-- a number of `left` digits is below ten times the power of its first
pub power_next : (left x : ℕ) → 0 < left → x < 10 ^ left → x < 10 * 10 ^ (left - 1)
power_next zero x some below = absurd (not-suc-le-zero some)
power_next (suc n) x some below = rw sub-one (omega (arith, below, pow-suc 10 n))

pub power_small : (n : ℕ) → n < most_digits → 10 ^ n ≤ 10 ^ most_digits
power_small n few = pow-le-pow_right (lit< tt) (le_of_lt few)
