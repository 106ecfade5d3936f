-- What is found at each stop on the walk along the sender's log (`Finding`), and at the three returns.
use Rattle.std.proofs.Common.{◌∙◌, sym, arith}
use Rattle.lent.specs.PlacesLaws.{finding_begins, finding_next, found_right, found_missing, found_ahead, found_since}
use Rattle.lent.proofs.Replicas.find_places.Goals as goal

pub returns-then-not-is_none_ahead : goal.returns-then-not-is_none_ahead
returns-then-not-is_none_ahead c =
    let ahead = rw c.received-made.ensures at c.is_none_ahead.ensures in
    found_ahead _ _ _ c.requires _ (sym ahead ∙ c.if-not-is_none_ahead.true)

pub loop-n-init : goal.loop-n-init
loop-n-init c = finding_begins _ _ _ c.requires _ _ c.mark.ensures

pub walk-requires : goal.walk-requires
walk-requires c = (c.loop-n.invariant.end, omega (arith, c.next_stop-stop.ensures.above))

pub returns-in_default : goal.returns-in_default
returns-in_default c =
    let next = rw c.received-made.ensures at c.next_stop-stop.ensures in
    found_since _ _ _ c.requires _ _ c.mark.ensures _ _
    (found_missing _ _ _ c.requires _ _ _ _ c.loop-n.invariant _ next.within c.in_default.ensures)

pub loop-n-preserved : goal.loop-n-preserved
loop-n-preserved c =
    let next = rw c.received-made.ensures at c.next_stop-stop.ensures in
    finding_next _ _ _ c.requires _ _ _ _ c.loop-n.invariant _ _ _ next c.in-Some.ensures c.mark-in-loop-n.ensures

pub returns : goal.returns
returns c =
    let ahead = rw c.received-made.ensures at c.is_none_ahead.ensures in
    let all = rw c.received-made.ensures at c.loop-n-test.false in
    found_since _ _ _ c.requires _ _ c.mark.ensures _ _
    (found_right _ _ _ c.requires _ _ _ _ c.loop-n.invariant all (sym ahead ∙ c.if-not-is_none_ahead.false))
