-- Each power is that of the digit that is next.
use Rattle.std.proofs.Common.{◌≡◌, ◌∙◌, ◌+◌, ◌-◌, ◌<◌, length, arith}
use Rattle.text.specs.Put.{most_digits}
use Rattle.text.specs.DecimalLaws.{fixed}
use Rattle.text.specs.Powers.{entry_is, power_next, power_small}
use Rattle.text.proofs.PutLaws.{put_digit}
use Rattle.text.proofs.decimal.put_digits.Goals as goal

pub first_digit-first-requires : goal.first_digit-first-requires
first_digit-first-requires c =
    let left = length c.args.powers.now - c.loop-i.i in
    let some : 0 < left = omega arith in
    let few : left - 1 < most_digits = omega arith in
    rw (entry_is c.args.powers.now c.loop-i.i c.requires.0 c.loop-i-test.true) (power_small (left - 1) few, power_next left c.loop-i.rest some c.loop-i.invariant.0)

pub loop-i-preserved : goal.loop-i-preserved
loop-i-preserved c =
    let d = c.first_digit-first.result.digit in
    let y = c.first_digit-first.result.rest in
    let left = length c.args.powers.now - c.loop-i.i in
    let some : 0 < left = omega arith in
    let next : length c.args.powers.now - (c.loop-i.i + 1) ≡ left - 1 = omega arith in
    let split = rw (entry_is c.args.powers.now c.loop-i.i c.requires.0 c.loop-i-test.true) at c.first_digit-first.ensures in
    rw (next, c.digit_byte.ensures) (split.1, rw split.0 at (put_digit c.loop-i.out c.loop-i.i left d y some split.2 split.1) ∙ c.loop-i.invariant.1)

pub returns : goal.returns
unfolding fixed
returns c =
    let none : length c.args.powers.now - c.loop-i.i ≡ 0 = omega arith in
    rw none at c.loop-i.invariant.1
