-- As many digits as there are, the first one first.
use Rattle.std.proofs.Common.{arith}
use Rattle.text.proofs.PutLaws.{powers_of, put_digits_of}
use Rattle.text.proofs.decimal.put_by.Goals as goal

pub put_digits-requires : goal.put_digits-requires
put_digits-requires c =
    let counted = c.digit_count_of-count.ensures in
    let powers = powers_of c.args.powers.now c.digit_count_of-count.result c.requires.0 counted.0.some counted.1 in
    (powers.0, omega (arith, powers.1), rw powers.1 counted.0.below, omega (arith, powers.1))

pub returns : goal.returns
returns c =
    let counted = c.digit_count_of-count.ensures in
    let powers = powers_of c.args.powers.now c.digit_count_of-count.result c.requires.0 counted.0.some counted.1 in
    put_digits_of _ _ 0 _ _ _ counted.0 counted.1 (rw powers.1 at c.put_digits.ensures) (omega arith)
