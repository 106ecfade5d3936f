-- LAWS. Bits of a number: what they are where one is set, that they make up the number, and how code reads and sets them. And whether a test holds of any number
-- below a bound.
use Rattle.std.specs.Prelude.{ℕ, zero, suc, ◌+◌, ◌-◌, ◌*◌, ◌/◌, ◌%◌, ◌^◌, ◌≤◌, ◌<◌, ◌≡◌, refl, ◌↔◌, Bool, true, false, ◌||◌, ltb}
use Rattle.std.proofs.Math.Path.{sym, ap, ap₂}
use Rattle.std.proofs.Common.{◌∙◌, add_comm, mod-eq_of_lt, mod-lt, div-lt_iff_lt-mul, lt_of_lt_of_le, arith, lit<, pow_pos, pow-add, shr-shr, shl_exact, lt-ltb, le-ltb}
use Rattle.std.proofs.Math.Bool.{cond}
use Rattle.std.proofs.lemmas.Bool.{false≢true}
use Rattle.std.proofs.Math.Nat.{mod-one, zero-div, div-eq_of_lt, pow-le-pow_right}
use Rattle.std.specs.Int.Bits.{bit_or, or_zero_r}
use Rattle.std.proofs.lemmas.Nat.{or_block, mod-pow-add}
use Rattle.std.proofs.Math.Dec.{eqb}
use Rattle.std.proofs.Math.Pow.{split, high, low, field, mod-mod-pow}
use Rattle.protocol.proofs.Cases.{by_le, by_place, or_left, or_right, not_yes}
use Rattle.protocol.proofs.Tables.{put, put_at, put_other, sum_cong}
unfoldable pub use Rattle.protocol.specs.Functions.{sum, bits, bit, with_bit, any_below}

-- ---- a bit as a number

pub flag_below : (t : Bool) → cond t 1 0 < 2
flag_below true = omega arith
flag_below false = omega arith

pub flag_times : (t : Bool) (m : ℕ) → cond t m 0 ≡ cond t 1 0 * m
flag_times true m = omega arith
flag_times false m = omega arith

pub flag_part : (t : Bool) (m : ℕ) → cond t m 0 ≤ m
flag_part true m = omega arith
flag_part false m = omega arith

flag_is : (t : Bool) → eqb (cond t 1 0) 1 ≡ t
flag_is true = refl
flag_is false = refl

flag_of : (x : ℕ) → x < 2 → cond (eqb x 1) 1 0 ≡ x
flag_of zero l = refl
flag_of (suc zero) l = refl
flag_of (suc (suc x)) l = absurd (omega arith)

-- ---- one bit set

-- the digits below j say what a bit below j is
pub low_bit : (x j i : ℕ) → i < j → x / 2 ^ i % 2 ≡ x % 2 ^ j / 2 ^ i % 2
low_bit x j i l =
    let d = j - (1 + i) in
    let whole : d + (1 + i) ≡ j = omega arith in
    let same : x % 2 ^ j % 2 ^ (1 + i) ≡ x % 2 ^ (1 + i) = ap (λ (y : ℕ). x % 2 ^ y % 2 ^ (1 + i)) (sym whole) ∙ mod-mod-pow x d (1 + i) in
    sym (field x 1 i) ∙ ap (λ (y : ℕ). y / 2 ^ i) (sym same) ∙ field (x % 2 ^ j) 1 i

module _ (j : ℕ) (t : Bool) (x : ℕ) where
  rest_below : cond t (2 ^ j) 0 + x % 2 ^ j < 2 ^ (1 + j)
  rest_below = omega (arith, pow-add 2 1 j, flag_part t (2 ^ j), mod-lt x (pow_pos j))

  high_kept : with_bit j t x / 2 ^ (1 + j) ≡ x / 2 ^ (1 + j)
  unfolding with_bit
  high_kept = high (x / 2 ^ (1 + j)) (1 + j) rest_below

  rest_is : with_bit j t x % 2 ^ (1 + j) ≡ cond t 1 0 * 2 ^ j + x % 2 ^ j
  unfolding with_bit
  rest_is = low (x / 2 ^ (1 + j)) (1 + j) rest_below ∙ ap (λ (y : ℕ). y + x % 2 ^ j) (flag_times t (2 ^ j))

  low_kept : with_bit j t x % 2 ^ j ≡ x % 2 ^ j
  low_kept = sym (mod-mod-pow (with_bit j t x) 1 j) ∙ ap (λ (y : ℕ). y % 2 ^ j) rest_is ∙ low (cond t 1 0) j (mod-lt x (pow_pos j))

  bit_same : bit (with_bit j t x) j ≡ t
  unfolding bit
  bit_same =
      let here : with_bit j t x / 2 ^ j % 2 ≡ cond t 1 0
      = sym (field (with_bit j t x) 1 j) ∙ ap (λ (y : ℕ). y / 2 ^ j) rest_is ∙ high (cond t 1 0) j (mod-lt x (pow_pos j)) in
      ap (λ (y : ℕ). eqb y 1) here ∙ flag_is t

  below_kept : (i : ℕ) → i < j → with_bit j t x / 2 ^ i % 2 ≡ x / 2 ^ i % 2
  below_kept i l = low_bit (with_bit j t x) j i l ∙ ap (λ (y : ℕ). y / 2 ^ i % 2) low_kept ∙ sym (low_bit x j i l)

  above_kept : (i : ℕ) → j < i → with_bit j t x / 2 ^ i % 2 ≡ x / 2 ^ i % 2
  above_kept i l =
      let d = i - (1 + j) in
      let whole : (1 + j) + d ≡ i = omega arith in
      let part : (y : ℕ) → y / 2 ^ i ≡ y / 2 ^ (1 + j) / 2 ^ d = λ y. ap (λ (n : ℕ). y / 2 ^ n) (sym whole) ∙ sym (shr-shr y (1 + j) d) in
      ap (λ (y : ℕ). y % 2) (part (with_bit j t x) ∙ ap (λ (y : ℕ). y / 2 ^ d) high_kept ∙ sym (part x))

  bit_other : (i : ℕ) → (i ≡ j → ⊥) → bit (with_bit j t x) i ≡ bit x i
  unfolding bit
  bit_other i d =
      by_le (suc i) j
      (λ l. ap (λ (y : ℕ). eqb y 1) (below_kept i l))
      (λ l. ap (λ (y : ℕ). eqb y 1) (above_kept i (omega arith)))

  pub bit_put : (i : ℕ) → bit (with_bit j t x) i ≡ put j t (bit x) i
  bit_put i = by_place i j (λ e. rw put_at (rw e bit_same)) (λ d. rw put_other (bit_other i d))

  -- set again, only the last counts
  pub with_bit_again : (u : Bool) → with_bit j u (with_bit j t x) ≡ with_bit j u x
  unfolding with_bit
  with_bit_again u = ap₂ (λ (y z : ℕ). y * 2 ^ (1 + j) + (cond u (2 ^ j) 0 + z)) high_kept low_kept

  pub with_bit_below : (k : ℕ) → j < k → x < 2 ^ k → with_bit j t x < 2 ^ k
  with_bit_below k l small =
      let d = k - (1 + j) in
      let whole : d + (1 + j) ≡ k = omega arith in
      let power : 2 ^ k ≡ 2 ^ d * 2 ^ (1 + j) = ap (λ (n : ℕ). 2 ^ n) (sym whole) ∙ pow-add 2 d (1 + j) in
      rw power ((div-lt_iff_lt-mul (pow_pos (1 + j))).0 (rw high_kept ((div-lt_iff_lt-mul (pow_pos (1 + j))).1 (rw power at small))))

-- ---- a number and its bits

digits : (x j : ℕ) → x % 2 ^ (1 + j) ≡ cond (bit x j) (2 ^ j) 0 + x % 2 ^ j
unfolding bit
digits x j =
    mod-pow-add x 1 j
    ∙ ap (λ (y : ℕ). y * 2 ^ j + x % 2 ^ j) (sym (flag_of (x / 2 ^ j % 2) (mod-lt (x / 2 ^ j) (lit< tt))))
    ∙ ap (λ (y : ℕ). y + x % 2 ^ j) (sym (flag_times (eqb (x / 2 ^ j % 2) 1) (2 ^ j)))

bits_low : (x k : ℕ) → bits k (bit x) ≡ x % 2 ^ k
unfolding bits sum
bits_low x zero = sym (mod-one x)
bits_low x (suc k) =
    let more : 1 + k ≡ suc k = omega arith in
    ap (λ (y : ℕ). y + cond (bit x k) (2 ^ k) 0) (bits_low x k) ∙ add_comm (x % 2 ^ k) (cond (bit x k) (2 ^ k) 0) ∙ sym (digits x k) ∙ ap (λ (n : ℕ). x % 2 ^ n) more

-- a number below 2^k whose bits are known
pub bits_are : (x k : ℕ) (f : ℕ → Bool) → x < 2 ^ k → ((j : ℕ) → j < k → bit x j ≡ f j) → x ≡ bits k f
unfolding bits
bits_are x k f small same =
    sym (bits_low x k ∙ mod-eq_of_lt small) ∙ sum_cong k _ _ (λ j l. ap (λ (t : Bool). cond t (2 ^ j) 0) (same j l))

-- a number below 2^k has no bit from k on
pub bit_above : (x k j : ℕ) → x < 2 ^ k → k ≤ j → bit x j ≡ false
unfolding bit
bit_above x k j small l = ap (λ (y : ℕ). eqb (y % 2) 1) (div-eq_of_lt (lt_of_lt_of_le small (pow-le-pow_right (lit< tt) l)))

pub high_bit : (x k j : ℕ) → k ≤ j → bit x j ≡ true → 2 ^ k ≤ x
high_bit x k j l one = by_le (2 ^ k) x (λ large. large) (λ small. absurd (false≢true (sym (bit_above x k j small l) ∙ one)))

pub no_bit : (j : ℕ) → bit 0 j ≡ false
unfolding bit
no_bit j = ap (λ (y : ℕ). eqb (y % 2) 1) (zero-div (2 ^ j))

-- ---- in code, on a word of 64 bits

pub one_shifted : (j : ℕ) → j < 64 → 1 * 2 ^ j % 2 ^ 64 ≡ 2 ^ j
one_shifted j l = shl_exact {a = 1} 1 j 64 (lit< tt) (omega arith) ∙ omega arith

or_one : (t : Bool) → bit_or (cond t 1 0) 1 ≡ 1
or_one true = refl
or_one false = refl

-- a bit set by `|`
pub or_bit : (j x : ℕ) → j < 64 → bit_or x (1 * 2 ^ j % 2 ^ 64) ≡ with_bit j true x
unfolding with_bit
or_bit j x l =
    let hi = x / 2 ^ (1 + j) in
    let b : ℕ = cond (bit x j) 1 0 in
    let lo = x % 2 ^ j in
    let small = mod-lt x (pow_pos j) in
    let one : 1 * 2 ^ j % 2 ^ 64 ≡ 0 * 2 ^ (1 + j) + (1 * 2 ^ j + 0) = one_shifted j l ∙ omega arith in
    let here : x ≡ hi * 2 ^ (1 + j) + (b * 2 ^ j + lo)
    = sym (split x (1 + j)) ∙ ap (λ (y : ℕ). hi * 2 ^ (1 + j) + y) (digits x j ∙ ap (λ (y : ℕ). y + lo) (flag_times (bit x j) (2 ^ j))) in
    let inner : bit_or (b * 2 ^ j + lo) (1 * 2 ^ j + 0) ≡ 2 ^ j + lo
    = or_block j b 1 lo 0 small (pow_pos j) ∙ ap₂ (λ (y z : ℕ). y * 2 ^ j + z) (or_one (bit x j)) (or_zero_r lo) ∙ omega arith in
    ap₂ bit_or here one
    ∙ or_block (1 + j) hi 0 (b * 2 ^ j + lo) (1 * 2 ^ j + 0) (omega (arith, pow-add 2 1 j, flag_times (bit x j) (2 ^ j), flag_part (bit x j) (2 ^ j))) (omega (arith, pow-add 2 1 j, pow_pos j))
    ∙ ap₂ (λ (y z : ℕ). y * 2 ^ (1 + j) + z) (or_zero_r hi) inner

-- and taken away by `-`
pub sub_bit : (j x : ℕ) → with_bit j true x - 2 ^ j ≡ with_bit j false x
unfolding with_bit
sub_bit j x = omega arith

pub some_bit : (j x : ℕ) → 2 ^ j ≤ with_bit j true x
unfolding with_bit
some_bit j x = omega arith

-- a number is below 2^k where at most one digit of it is left behind its first k - 1: a shift by less than 64, also where k is 64
pub below_power : (x k : ℕ) → 1 ≤ k → ltb (x / 2 ^ (k - 1)) 2 ≡ ltb x (2 ^ k)
below_power x k some =
    let whole : 1 + (k - 1) ≡ k = omega arith in
    let power : 2 ^ k ≡ 2 * 2 ^ (k - 1) = ap (λ (n : ℕ). 2 ^ n) (sym whole) ∙ pow-add 2 1 (k - 1) in
    let both = div-lt_iff_lt-mul {k = 2 ^ (k - 1)} {x = x} {y = 2} (pow_pos (k - 1)) in
    by_le (2 ^ k) x
    (λ l. rw (le-ltb x (2 ^ k) l) (by_le 2 (x / 2 ^ (k - 1)) (λ g. le-ltb _ _ g) (λ g. absurd (let f = both.0 g in omega arith))))
    (λ l. rw (lt-ltb x (2 ^ k) l) (lt-ltb _ _ (both.1 (rw power at l))))

-- ---- any below a bound

pub any_cong : (n : ℕ) (f g : ℕ → Bool) → ((j : ℕ) → j < n → f j ≡ g j) → any_below n f ≡ any_below n g
unfolding any_below
any_cong zero f g e = refl
any_cong (suc n) f g e = ap₂ ◌||◌ (any_cong n f g (λ j l. e j (omega arith))) (e n (omega arith))

pub any_some : (n : ℕ) (f : ℕ → Bool) (j : ℕ) → j < n → f j ≡ true → any_below n f ≡ true
unfolding any_below
any_some zero f j l t = absurd (omega arith)
any_some (suc n) f j l t =
    by_place j n
    (λ e. or_right (any_below n f) (f n) (rw e at t))
    (λ d. or_left (any_below n f) (f n) (any_some n f j (omega arith) t))

pub any_none : (n : ℕ) (f : ℕ → Bool) → (any_below n f ≡ false) ↔ ((j : ℕ) → j < n → f j ≡ false)
unfolding any_below
any_none n f = (λ none j l. not_yes (f j) (λ t. false≢true (sym none ∙ any_some n f j l t)), from n)
  where
    from : (n : ℕ) → ((j : ℕ) → j < n → f j ≡ false) → any_below n f ≡ false
    from zero h = refl
    from (suc n) h = rw (from n (λ j l. h j (omega arith)), h n (omega arith))
