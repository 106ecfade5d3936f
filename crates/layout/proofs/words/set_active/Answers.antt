-- The bit is set by `|` and taken away by `&` with every other bit.
use Rattle.std.proofs.Common.{◌≡◌, ℕ, ◌-◌, ◌*◌, ◌%◌, ◌^◌, ◌<◌, false, bit_and, nat_eq, set, ap, sym, ◌∙◌, arith, w64}
use Rattle.std.proofs.lemmas.Nat.{and_le_l}
use Rattle.std.proofs.lemmas.Nat.Bits.{bit_at_clear_same, bit_at_clear_other}
use Rattle.protocol.proofs.Cases.{by_place}
use Rattle.protocol.proofs.Tables.{put, put_at, put_other}
use Rattle.protocol.proofs.BitLaws.{or_bit, with_bit, with_bit_below, bit_put, bits_are}
use Rattle.protocol.specs.Functions.{bit}
use Rattle.replica_model.specs.Layout.{at_active, active_word}
use Rattle.layout.proofs.words.set_active.Goals as goal

-- x without bit q
abbrev without_bit : ℕ → ℕ → ℕ
without_bit q x = bit_and x (18446744073709551615 - 1 * 2 ^ q % 18446744073709551616)

module _ (q x : ℕ) (l : q < 64) (small : x < 2 ^ 64) where
  bit_without : (i : ℕ) → i < 64 → bit (without_bit q x) i ≡ put q false (bit x) i
  unfolding bit
  bit_without i m =
      by_place i q
      (λ e. rw put_at (rw e (ap (λ (y : ℕ). nat_eq y 1) (bit_at_clear_same w64 x q l))))
      (λ d. rw put_other (ap (λ (y : ℕ). nat_eq y 1) (bit_at_clear_other w64 x q l i m d)))

  clear_bit : without_bit q x ≡ with_bit q false x
  clear_bit =
      bits_are (without_bit q x) 64 _ (omega (arith, and_le_l x (18446744073709551615 - 1 * 2 ^ q % 18446744073709551616))) bit_without
      ∙ sym (bits_are (with_bit q false x) 64 _ (with_bit_below q false x 64 l small) (λ i m. bit_put q false x i))

pub returns-then-active : goal.returns-then-active
returns-then-active c = rw c.if-active.true (ap (λ (x : ℕ). set c.args.words.now at_active x) (or_bit c.args.q (active_word c.args.words.now) c.requires.1))

pub returns-else-active : goal.returns-else-active
returns-else-active c =
    let small : active_word c.args.words.now < 2 ^ 64 = omega arith in
    rw c.if-active.false (ap (λ (x : ℕ). set c.args.words.now at_active x) (clear_bit c.args.q (active_word c.args.words.now) c.requires.1 small))
