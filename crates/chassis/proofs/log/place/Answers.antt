-- One message more is passed (`walk_next`), and each end is a law of the walk.
use Rattle.std.proofs.Common.{arith}
use Rattle.chassis.proofs.LogWalkLaws.{walk_zero, walk_begins, walk_next, walk_none, walk_here}
use Rattle.chassis.proofs.log.place.Goals as goal

pub returns-then-q-eq0 : goal.returns-then-q-eq0
returns-then-q-eq0 c = walk_zero c.args.q c.args.log.now c.if-q-eq0.true

pub loop-init : goal.loop-init
loop-init c = walk_begins c.args.q c.args.log.now

pub loop-preserved : goal.loop-preserved
loop-preserved c =
    walk_next c.args.q c.args.log.now c.loop.counter c.loop.at c.loop.invariant c.in_ok-at.field-0 c.loop-test.true c.in_ok-at.ensures.length

pub returns-in_err-at : goal.returns-in_err-at
returns-in_err-at c =
    rw c.from_residual.ensures
    (walk_none c.args.q c.args.log.now c.loop.counter c.loop.at c.loop.invariant (omega arith) c.in_err-at.ensures.length)

pub returns : goal.returns
returns c =
    walk_here c.args.q c.args.log.now c.loop.counter c.loop.at c.loop.invariant c.in_ok-length.length (omega arith) c.in_ok-length.ensures.length

pub returns-in_err-length : goal.returns-in_err-length
returns-in_err-length c =
    rw c.from_residual-in_err-length.ensures
    (walk_none c.args.q c.args.log.now c.loop.counter c.loop.at c.loop.invariant (omega arith) c.in_err-length.ensures.length)
