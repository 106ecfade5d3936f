-- One turn (`rounding_turn`) leaves what the next one is given: its link is kept (`rounding_kept`) or left out (`rounding_left_out`).
use Rattle.std.proofs.Common.{inl, inr, refl}
use Rattle.pending.specs.Rounds.{kept_after}
use Rattle.pending.specs.RoundsLaws.{rounding_turn, rounding_kept, rounding_left_out, rounding_done}
use Rattle.pending.proofs.rounds.Pump.round.Goals as goal
use Rattle.pending.proofs.rounds.Pump.round.Goals.{in-Declined, in-Open, in-Done}

pub take_turn-requires : goal.take_turn-requires
take_turn-requires c = rw c.loop-next.invariant.0.sizes (rounding_turn _ _ _ _ _ _ _ _ _ _ _ c.loop-next.invariant.1 c.loop-next-test.true)

pub loop-next-preserved : goal.loop-next-preserved
loop-next-preserved c =
    let same = c.loop-next.invariant.0.sizes in (
      kept_after c.loop-next.invariant.0 c.take_turn.ensures.kept,
      elim c.match-take_turn.branch [
        | in-Declined w ↦
            let done = rw same at w.in-Declined.ensures.done in
            rw (w.list-is, w.made-is)
            (rounding_left_out _ _ _ _ _ _ _ _ _ _ _ c.loop-next.invariant.1 c.loop-next-test.true c.if-most-made.false _ _ done refl)
        | in-Open w ↦
            let done = rw same at w.in-Open.ensures.done in
            rw (w.list-is, w.push.ensures, w.made-is)
            (rounding_kept _ _ _ _ _ _ _ _ _ _ _ c.loop-next.invariant.1 c.loop-next-test.true c.if-most-made.false _ _ done refl)
        | in-Done w ↦
            let done = rw same at w.in-Done.ensures.done in
            rw (w.list-is, w.made-is)
            (rounding_left_out _ _ _ _ _ _ _ _ _ _ _ c.loop-next.invariant.1 c.loop-next-test.true c.if-most-made.false _ _ done refl)
      ],
    )

pub returns-then-most-made-clause-done : goal.returns-then-most-made-clause-done
returns-then-most-made-clause-done c = rounding_done _ _ _ _ _ _ _ _ _ _ _ c.loop-next.invariant.1 (inr c.if-most-made.true)

pub returns-after-loop-next-clause-done : goal.returns-after-loop-next-clause-done
returns-after-loop-next-clause-done c = rounding_done _ _ _ _ _ _ _ _ _ _ _ c.loop-next.invariant.1 (inl c.loop-next-test.false)
