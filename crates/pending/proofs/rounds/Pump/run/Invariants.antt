-- The invariant: some rounds of the call are done, and the list has the links that are open (`Pumping`). The measure: the deliveries that `most` allows still,
-- and the links that are open.
use Rattle.std.proofs.Common.{◌+◌, ◌-◌}
use Rattle.pending.specs.Rounds.{pump_state, Kept}
use Rattle.pending.specs.RoundsLaws.{Pumping}
use Rattle.pending.proofs.rounds.Pump.run.Given as goal

abbrev pub invariant-loop-list : goal.invariant-loop-list
invariant-loop-list l =
    Kept l.initial.self l.self × Pumping l.initial.self.sizes l.most (pump_state l.initial.self) (pump_state l.self) l.list l.made

abbrev pub decreases-loop-list : goal.decreases-loop-list
decreases-loop-list l = (l.most - l.made) + l.list.count
