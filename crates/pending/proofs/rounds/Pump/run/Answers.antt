-- One round more (`pumping_round`, `pumping_next`) brings the end nearer (`pumping_less`).
use Rattle.std.proofs.Common.{inl, inr, refl}
use Rattle.pending.specs.Rounds.{kept_after}
use Rattle.pending.specs.RoundsLaws.{pumping_begins, pumping_round, pumping_next, pumping_less, pumping_done}
use Rattle.pending.proofs.rounds.Pump.run.Goals as goal

pub loop-list-init : goal.loop-list-init
loop-list-init c =
    let ready = c.args.self.now.ready in
    (record { sizes = refl; words = refl }, pumping_begins _ _ _ _ ready.words_fit.few_cards ready.checked c.waiting-list.ensures)

pub round-made-requires : goal.round-made-requires
round-made-requires c = rw c.loop-list.invariant.0.sizes (pumping_round _ _ _ _ _ _ c.loop-list.invariant.1 c.if-made-most.true)

pub loop-list-smaller : goal.loop-list-smaller
loop-list-smaller c =
    let done = rw c.loop-list.invariant.0.sizes at c.round-made.ensures.done in
    pumping_less _ _ _ _ _ _ c.loop-list.invariant.1 c.if-made-most.true _ _ _ done c.loop-list-test.true

pub loop-list-preserved : goal.loop-list-preserved
loop-list-preserved c =
    let done = rw c.loop-list.invariant.0.sizes at c.round-made.ensures.done in (
      kept_after c.loop-list.invariant.0 c.round-made.ensures.kept,
      pumping_next _ _ _ _ _ _ c.loop-list.invariant.1 c.if-made-most.true _ _ _ done,
    )

pub returns-after-loop-list-clause-done : goal.returns-after-loop-list-clause-done
returns-after-loop-list-clause-done c = pumping_done _ _ _ _ _ _ c.loop-list.invariant.1 (inl c.loop-list-test.false)

pub returns-else-made-most-clause-done : goal.returns-else-made-most-clause-done
returns-else-made-most-clause-done c = pumping_done _ _ _ _ _ _ c.loop-list.invariant.1 (inr c.if-made-most.false)
