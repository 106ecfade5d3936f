-- What the receiver has had may be a nearer stop (`stop_next`), or it is passed (`stop_passed`).
use Rattle.lent.specs.PlacesLaws.{stop_next, stop_passed}
use Rattle.lent.proofs.Replicas.next_stop.Goals as goal
use Rattle.lent.proofs.Replicas.next_stop.Goals.{then-passed-had, else-passed-had}

pub loop-receiver-preserved : goal.loop-receiver-preserved
loop-receiver-preserved c =
    let had = c.received-had.ensures in
    elim c.if-passed-had.branch [
      | then-passed-had w ↦
          rw (w.stop-is, w.min-stop.ensures, had)
          (stop_next _ _ _ _ _ _ (rw had at w.if-passed-had.true) c.loop-receiver.invariant)
      | else-passed-had w ↦
          rw w.stop-is (stop_passed _ _ _ _ _ _ (rw had at w.if-passed-had.false) c.loop-receiver.invariant)
    ]
