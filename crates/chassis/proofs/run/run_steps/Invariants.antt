-- The invariant: the steps from the i-th on are left (`RunningBytes`).
use Rattle.chassis.specs.InRun.{state_in, Kept}
use Rattle.chassis.proofs.RunningLaws.{RunningBytes}
use Rattle.chassis.proofs.run.run_steps.Given as goal

abbrev pub invariant-loop-i : goal.invariant-loop-i
invariant-loop-i l =
    Kept l.initial.chassis l.chassis
    × RunningBytes l.initial.chassis.sizes.cards l.initial.chassis.sizes.counters l.initial.chassis.sizes.log_bytes l.bytes l.count (state_in l.initial.chassis) (state_in l.chassis) l.i l.answers
