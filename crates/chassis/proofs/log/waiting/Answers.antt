-- What stands at the waiting span is the waiting part (`span_is_part`), and it ends inside the log (`span_inside`). The part begins where the span does.
use Rattle.std.proofs.Common.{◌+◌, ◌≤◌, refl, ap, arith, length}
use Rattle.std.proofs.Math.Nat.{add-sub_cancel_left}
use Rattle.chassis_model.proofs.Spans.{span_is_part, span_inside}
use Rattle.chassis.proofs.log.waiting.Goals as goal

pub overflow_add-end : goal.overflow_add-end
overflow_add-end c =
    let inside : c.waiting_span-place.result.start + c.waiting_span-place.result.length ≤ length c.args.log.now
    = rw c.waiting_span-place.ensures (span_inside c.args.q c.args.log.now) in
    omega arith

pub slice_bounds-result-end : goal.slice_bounds-result-end
slice_bounds-result-end c =
    let inside : c.waiting_span-place.result.start + c.waiting_span-place.result.length ≤ length c.args.log.now
    = rw c.waiting_span-place.ensures (span_inside c.args.q c.args.log.now) in
    omega arith

pub returns : goal.returns
returns c =
    let place = c.waiting_span-place.result in
    record {
      holds = rw (add-sub_cancel_left place.start place.length, c.waiting_span-place.ensures) (span_is_part c.args.q c.args.log.now);
      block = refl;
      offset = omega (arith, ap (λ s. s.start) c.waiting_span-place.ensures);
    }
