-- The receiver's place is marked if it has had that number (`mark_next`), else passed (`mark_passed`).
use Rattle.std.proofs.Common.{◌<◌, length, arith, sym, ◌∙◌}
use Rattle.chassis_model.proofs.Places.{link_place}
use Rattle.lent.specs.PlacesLaws.{mark_next, mark_passed}
use Rattle.lent.proofs.Replicas.mark.Goals as goal
use Rattle.lent.proofs.Replicas.mark.Goals.{then-received-number, else-received-number}

pub loop-receiver-preserved : goal.loop-receiver-preserved
loop-receiver-preserved c =
    let had = c.received.ensures in
    elim c.if-received-number.branch [
      | then-received-number w ↦
          let inside : link_place c.loop-receiver.receiver c.args.sender < length c.loop-receiver.places
          = omega (arith, w.link.ensures, c.loop-receiver.invariant.size, c.fits-places) in
          rw (w.places-is, w.link.ensures.0)
          (mark_next _ _ _ _ _ _ _ (omega arith) (omega arith) inside (sym had ∙ w.if-received-number.true) c.loop-receiver.invariant)
      | else-received-number w ↦
          rw w.places-is (mark_passed _ _ _ _ _ _ _ (λ e. w.if-received-number.false (had ∙ e)) c.loop-receiver.invariant)
    ]
