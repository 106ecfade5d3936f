-- LAWS. Sums, masks and counts over the cards below a bound: one turn of a loop that makes them, their bounds, and that a mask's ones are counted
-- by the cards that it holds.
use Rattle.std.specs.Prelude.{◌≡◌, ℕ, zero, suc, ◌+◌, ◌*◌, ◌/◌, ◌%◌, ◌^◌, ◌<◌, ◌≤◌, Bool, true, false, cond, List, bit_or, refl}
use Rattle.std.proofs.Common.{sym, ap, ◌∙◌, pow-suc, add_comm, mul-le-mul_right, mod-eq_of_lt, add-one, arith, lit<, shl_exact}
use Rattle.std.proofs.Math.Nat.{mul-add-mod_self_right, mod-add-mod}
use Rattle.std.specs.Int.Bits.{or_shifted_r}
use Rattle.std.specs.Int.Count.{ones}
use Rattle.std.proofs.lemmas.Nat.{ones_cat}
use Rattle.std.proofs.Math.Pow.{high}
use Rattle.protocol.specs.Limits.{MAX, most_cards}
use Rattle.protocol.proofs.Cases.{by_place}
use Rattle.protocol.proofs.BitLaws.{flag_below, flag_times, flag_part, low_bit}
use Rattle.protocol.proofs.Tables.{sum, bits}
use Rattle.protocol.specs.Functions.{count_below}
use Rattle.replica_model.specs.Layout.{cards, entry_of}
use Rattle.replica_model.specs.ClaimTerms.{RowOf}
use Rattle.layout.specs.Totals.{sum_turn, held, held_below}

-- ---- sums

-- one turn of a sum that wraps at m
pub sum_turn_wrapped : (n m : ℕ) (f : ℕ → ℕ) → (sum n f % m + f n) % m ≡ sum (n + 1) f % m
sum_turn_wrapped n m f = mod-add-mod (sum n f) m (f n) ∙ rw (sum_turn n f)

-- most-cards times MAX fits a word
pub held_fits : (b : List ℕ) (q : ℕ) → RowOf b q → cards b ≤ most_cards
    → sum (cards b) (held (entry_of (cards b) b q)) % 2 ^ 64 ≡ sum (cards b) (held (entry_of (cards b) b q))
held_fits b q row few = mod-eq_of_lt (omega (arith, held_below (entry_of (cards b) b q) (cards b) row.tables.entry, mul-le-mul_right MAX few))

-- ---- masks

bits_none : (f : ℕ → Bool) → bits 0 f ≡ 0
unfolding bits sum
bits_none f = refl

-- the mask of one card more: a bit in front
bits_more : (n : ℕ) (f : ℕ → Bool) → bits (suc n) f ≡ cond (f n) 1 0 * 2 ^ n + bits n f
unfolding bits sum
bits_more n f = rw (flag_times (f n) (2 ^ n)) (add_comm (bits n f) (cond (f n) 1 0 * 2 ^ n))

pub bits_below : (n : ℕ) (f : ℕ → Bool) → bits n f < 2 ^ n
bits_below zero f = rw bits_none (lit< tt)
bits_below (suc n) f = omega (arith, bits_more n f, pow-suc 2 n, flag_times (f n) (2 ^ n), flag_part (f n) (2 ^ n), bits_below n f)

-- one turn of the loop that sets bit n by a shift, in a word of 16 bits
pub bits_turn : (n : ℕ) (f : ℕ → Bool) → n < 16 → bit_or (bits n f) (cond (f n) 1 0 * 2 ^ n % 65536) ≡ bits (n + 1) f
bits_turn n f l =
    rw (shl_exact {a = cond (f n) 1 0} 1 n 16 (flag_below (f n)) (omega arith), or_shifted_r (cond (f n) 1 0) n (bits n f) (bits_below n f), add-one n)
    (sym (bits_more n f))

ones_flag : (t : Bool) → ones (cond t 1 0) ≡ cond t 1 0
unfolding ones
ones_flag true = refl
ones_flag false = refl

pub ones_bits : (n : ℕ) (f : ℕ → Bool) → ones (bits n f) ≡ count_below n f
unfolding count_below
ones_bits zero f = rw bits_none (ones_flag false)
ones_bits (suc n) f =
    ap ones (bits_more n f) ∙ ones_cat n (cond (f n) 1 0) (bits n f) (bits_below n f) ∙ rw (ones_flag (f n), ones_bits n f) (add_comm (cond (f n) 1 0) (count_below n f))

-- what stands above bit j does not change it
low_kept : (a n m j : ℕ) → j < n → (a * 2 ^ n + m) / 2 ^ j % 2 ≡ m / 2 ^ j % 2
low_kept a n m j l = low_bit (a * 2 ^ n + m) n j l ∙ ap (λ (x : ℕ). x / 2 ^ j % 2) (mul-add-mod_self_right a (2 ^ n) m) ∙ sym (low_bit m n j l)

pub bits_at : (n : ℕ) (f : ℕ → Bool) (j : ℕ) → j < n → bits n f / 2 ^ j % 2 ≡ cond (f j) 1 0
bits_at zero f j l = absurd (omega arith)
bits_at (suc n) f j l =
    rw (bits_more n f)
    (by_place j n
    (λ e. rw (e, high (cond (f n) 1 0) n (bits_below n f)) (mod-eq_of_lt (flag_below (f n))))
    (λ d. low_kept (cond (f n) 1 0) n (bits n f) j (omega arith) ∙ bits_at n f j (omega arith)))
