-- CLAIMS. What a caller of read may rely on of the holders and of the value's size, beyond the call's own equation (`Calls`).
use Rattle.std.specs.Prelude.{◌≡◌, ℕ, ◌*◌, ◌/◌, ◌%◌, ◌^◌, ◌<◌, ◌≤◌, cond, List, count_ones}
use Rattle.std.proofs.Math.Path.{sym}
use Rattle.std.proofs.Math.Nat.{mul-le-mul_right, pow-le-pow_right, lt_of_lt_of_le}
use native.Mathlib.Omega.{arith}
use Rattle.std.proofs.Math.Dec.{lit<}
use Rattle.protocol.specs.Limits.{MAX, most_cards}
use Rattle.protocol.proofs.Cases.{by_place}
use Rattle.protocol.specs.Entry.{present}
use Rattle.protocol.specs.Chassis.{read_value, read_holders}
use Rattle.protocol.proofs.StoreLaws.{shown}
use Rattle.replica_model.specs.Layout.{cards, entry_of}
use Rattle.replica_model.specs.Calls.{reading, read_on}
use Rattle.replica_model.proofs.RowLaws.{right_facts, row_facts}
use Rattle.replica_model.proofs.CallsLaws.{read_decided}
use Rattle.layout.specs.Totals.{held_below}
use Rattle.replica.specs.Sums.{bits_at, bits_below, ones_bits}

module _ (b : List ℕ) (q : ℕ) where
  -- Bit j of the holders is one exactly where card j's entry is present.
  pub holder_bit : (j : ℕ) → j < cards b → (reading b q).holders / 2 ^ j % 2 ≡ cond (present (entry_of (cards b) b q j)) 1 0
  unfolding reading read_holders shown
  holder_bit j l = bits_at (cards b) (λ j. present (entry_of (cards b) b q j)) j l

  -- No bit from the number of cards on is one.
  pub holders_below : (reading b q).holders < 2 ^ cards b
  unfolding reading read_holders shown
  holders_below = bits_below (cards b) (λ j. present (entry_of (cards b) b q j))

  -- The number of holders is the count of ones in the holders.
  pub holders_counted : (reading b q).holder_count ≡ count_ones (reading b q).holders
  unfolding reading read_holders shown
  holders_counted = sym (ones_bits (cards b) (λ j. present (entry_of (cards b) b q j)))

  -- Whatever the words and the counter, the value that a read gives is at most most-cards times MAX, and the holders are below 2 to the power of most-cards.
  pub read_below : ((read_on b q).value ≤ most_cards * MAX) × ((read_on b q).holders < 2 ^ most_cards)
  unfolding reading read_value shown
  read_below =
      by_place (read_on b q).number 0
      (λ accepted.
      let passed = ((read_decided b q).exact 0).0 accepted in
      let few : cards b ≤ most_cards = (right_facts b passed.0).sizes.few_cards in
      rw ((read_decided b q).accepted accepted) (
        omega (arith, held_below (entry_of (cards b) b q) (cards b) (row_facts b q passed.1.1.0).tables.entry, mul-le-mul_right MAX few),
        lt_of_lt_of_le holders_below (pow-le-pow_right (lit< tt) few),
      ))
      (λ refused. rw ((read_decided b q).refused refused) (omega arith, lit< tt))
