-- The two ranges that start at 1 come from the calls; 1 ≤ p ≤ c makes the third test of c idle.
use Rattle.std.proofs.Common.{nat_lt, leb}
use Rattle.protocol.specs.Limits.{MAX, most_cards}
use Rattle.wire.specs.Message.{entry_in_range}
use Rattle.wire.specs.RangeLaws.{entry_tests}
use Rattle.wire.proofs.range.entry_in_range.Goals as goal

pub returns : goal.returns
unfolding entry_in_range
returns c =
    let e = c.args.entry in
    rw (c.from.ensures, c.from_one.ensures, c.from_one-2.ensures) (entry_tests (leb c.args.low e.card) (nat_lt e.card most_cards) e.p e.c MAX)
