-- The message stands at the link's place (`turn_hand_ready`); it is declined and all stays (`turn_declined`), or taken and the place moves on
-- (`turn_taken`).
use Rattle.std.proofs.Common.{sym}
use Rattle.pending.specs.declared.rounds.Turn.TheVariants.{Open, Done}
use Rattle.pending.specs.RoundsLaws.{turn_hand_ready, turn_declined, turn_ready, turn_taken}
use Rattle.pending.proofs.rounds.Pump.take_turn.Goals as goal

pub hand_over-handed-requires : goal.hand_over-handed-requires
hand_over-handed-requires c = turn_hand_ready _ _ _ _ _ c.args.self.now.ready c.requires

pub invariant_of-self : goal.invariant_of-self
invariant_of-self c =
    record { ready = (turn_declined _ _ _ _ _ c.args.self.now.ready c.requires c.hand_over-handed.result _ c.hand_over-handed.ensures (sym c.if-is_err.ensures.value)).1 }

pub returns-then-is_err-clause-done : goal.returns-then-is_err-clause-done
returns-then-is_err-clause-done c =
    (turn_declined _ _ _ _ _ c.args.self.now.ready c.requires c.hand_over-handed.result _ c.hand_over-handed.ensures (sym c.if-is_err.ensures.value)).0

pub invariant_of-self-2 : goal.invariant_of-self-2
invariant_of-self-2 c =
    record { ready = turn_ready _ _ _ _ _ c.args.self.now.ready c.requires c.hand_over-handed.result _ c.hand_over-handed.ensures (sym c.if-is_err.ensures.value) }

pub returns-then-does_one_wait-clause-done : goal.returns-then-does_one_wait-clause-done
returns-then-does_one_wait-clause-done c =
    (turn_taken _ _ _ _ _ c.args.self.now.ready c.requires c.hand_over-handed.result _ c.hand_over-handed.ensures (sym c.if-is_err.ensures.value)
    Open (rw (← c.if-does_one_wait.ensures))).0

pub returns-else-does_one_wait-clause-done : goal.returns-else-does_one_wait-clause-done
returns-else-does_one_wait-clause-done c =
    (turn_taken _ _ _ _ _ c.args.self.now.ready c.requires c.hand_over-handed.result _ c.hand_over-handed.ensures (sym c.if-is_err.ensures.value)
    Done (rw (← c.if-does_one_wait.ensures))).0
