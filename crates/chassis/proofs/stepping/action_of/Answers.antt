-- By the kinds, one after the other.
use Rattle.std.proofs.Common.{arith, ne_eqb}
use Rattle.chassis_model.specs.Run.{action_of}
use Rattle.chassis.proofs.stepping.action_of.Goals as goal

pub returns-in-1 : goal.returns-in-1
unfolding action_of
returns-in-1 c = rw c.in-1.is

pub returns-in-2 : goal.returns-in-2
unfolding action_of
returns-in-2 c = rw c.in-2.is

pub returns-in-3 : goal.returns-in-3
unfolding action_of
returns-in-3 c = rw c.in-3.is

pub returns-in-4 : goal.returns-in-4
unfolding action_of
returns-in-4 c = rw c.in-4.is

pub returns-in_default : goal.returns-in_default
unfolding action_of
returns-in_default c =
    let kind = c.args.s.kind in
    rw (ne_eqb kind 1 (omega arith), ne_eqb kind 2 (omega arith), ne_eqb kind 3 (omega arith), ne_eqb kind 4 (omega arith))
