-- Behind the last turn the number is not below the largest power.
use Rattle.std.proofs.Common.{◌≡◌, arith}
use Rattle.text.specs.Put.{most_digits}
use Rattle.text.proofs.decimal.digit_count_of.Goals as goal

pub returns : goal.returns
returns c =
    let all : c.loop-count.count ≡ most_digits = omega arith in (
      record { some = omega arith; below = c.requires.1; full = λ two. rw all at (c.loop-count.invariant (rw all two)) },
      omega arith,
    )
