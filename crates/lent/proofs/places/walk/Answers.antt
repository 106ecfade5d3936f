-- The message behind the first n is the next one (`stands_next`), or it is not there (`stands_not`).
use Rattle.std.proofs.Common.{arith, add-one}
use Rattle.protocol.proofs.Cases.{by_place}
use Rattle.chassis_model.proofs.Ends.{ends_within}
use Rattle.lent.specs.PlacesLaws.{stands_next, stands_not}
use Rattle.lent.proofs.places.walk.Goals as goal

pub message_length-requires : goal.message_length-requires
message_length-requires c = rw c.loop-n.invariant.place (ends_within c.loop-n.n c.args.log.now)

pub returns-in_err-place : goal.returns-in_err-place
returns-in_err-place c =
    let not = stands_not c.args.log.now c.args.sender c.loop-n.n c.loop-n.place c.loop-n.invariant.place (rw (add-one c.loop-n.n) at c.in_err-place.ensures.length) in
    rw c.from_residual.ensures (record { behind = c.loop-n.n; below = c.loop-n-test.true; other = not })

pub loop-n-preserved : goal.loop-n-preserved
loop-n-preserved c =
    let next =
    stands_next c.args.log.now c.args.sender c.loop-n.n c.loop-n.place c.loop-n.invariant.place c.in_ok-place.field-0
    (rw (add-one c.loop-n.n) at c.in_ok-place.ensures.length) in
    record {
      place = rw (add-one c.loop-n.n) next.0;
      there = λ j low high. by_place j c.loop-n.n (λ e. rw e next.1) (λ d. c.loop-n.invariant.there j low (omega arith));
    }
