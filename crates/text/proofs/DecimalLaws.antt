-- LAWS. The first of a number's last digits and the others; and that the decimal digits of a number are its last ones, as many as it has.
use Rattle.std.specs.Prelude.{ℕ, zero, suc, ◌+◌, ◌*◌, ◌/◌, ◌%◌, ◌^◌, ◌≤◌, ◌<◌, ◌≡◌, refl, [], ◌∷◌, ◌++◌, length}
use Rattle.std.proofs.Common.{◌∙◌, pow-suc, div-lt_iff_lt-mul, le-div_iff_mul-le, mod-eq_of_lt, not-suc-le-zero, sub-one, arith, lt-ltb, le-ltb, lit<}
use Rattle.std.proofs.Math.Nat.{one-le-pow, mul-add-div_right, mul-add-mod_self_right}
use Rattle.protocol.proofs.StoredLists.{Positional, length_digits}
use Rattle.text.specs.Decimal.{digit, digits}
use Rattle.text.specs.DecimalLaws.{Counted, fixed}

-- the last digits are those of a number written to the base of 10
decimal_digits : Positional (λ (x : ℕ). digit (x % 10)) (λ (x : ℕ). x / 10) fixed
unfolding fixed
decimal_digits = record { none = λ x. refl; more = λ n x. refl }

pub fixed_length : (n x : ℕ) → length (fixed n x) ≡ n
fixed_length n x = length_digits decimal_digits n x

-- the first of n + 1 digits, and the others
pub fixed_first : (n d y : ℕ) → d < 10 → y < 10 ^ n → fixed (suc n) (d * 10 ^ n + y) ≡ digit d ∷ fixed n y
unfolding fixed
fixed_first zero d y small below =
    let x : d * 1 + y ≡ d = omega arith in
    rw (x, mod-eq_of_lt small)
fixed_first (suc n) d y small below =
    let x : d * 10 ^ suc n + y ≡ d * 10 ^ n * 10 + y = rw pow-suc (omega arith) in
    rw (x, mul-add-div_right (lit< tt) (d * 10 ^ n) y, mul-add-mod_self_right (d * 10 ^ n) 10 y, fixed_first n d (y / 10) small ((div-lt_iff_lt-mul (lit< tt)).1 (rw pow-suc at below)))

-- the two cases of `digits`
pub digits_one : (most x : ℕ) → x < 10 → digits (suc most) x ≡ digit x ∷ []
unfolding digits
digits_one most x small = rw (lt-ltb x 10 small)

pub digits_more : (most x : ℕ) → 10 ≤ x → digits (suc most) x ≡ digits most (x / 10) ++ digit (x % 10) ∷ []
unfolding digits
digits_more most x large = rw (le-ltb x 10 large)

-- x / 10 has one digit less
shorter : (n x : ℕ) → Counted x (suc (suc n)) → (10 ≤ x) × Counted (x / 10) (suc n)
shorter n x c =
    let full : 10 ^ n * 10 ≤ x = rw (sub-one, pow-suc) at (c.full (omega arith)) in
    let large : 10 ≤ x = omega (arith, one-le-pow n 10 (lit< tt)) in (
      large,
      record {
        some = omega arith;
        below = (div-lt_iff_lt-mul (lit< tt)).1 (rw pow-suc at c.below);
        full = λ more. rw sub-one ((le-div_iff_mul-le (lit< tt)).1 full);
      },
    )

-- the digits with no zero in front are the last ones, as many as there are
pub digits_fixed : (most n x : ℕ) → n < most → Counted x (suc n) → digits most x ≡ fixed (suc n) x
unfolding fixed
digits_fixed zero n x enough c = absurd (not-suc-le-zero enough)
digits_fixed (suc most) zero x enough c = digits_one most x c.below ∙ rw (mod-eq_of_lt {n = x} {m = 10} c.below)
digits_fixed (suc most) (suc n) x enough c =
    let less = shorter n x c in
    digits_more most x less.0 ∙ rw (digits_fixed most n (x / 10) (omega arith) less.1)
