-- The invariant: what the links that are left make of the present state is what the whole round makes of the first one (`Rounding`).
use Rattle.pending.specs.Rounds.{pump_state, Kept}
use Rattle.pending.specs.RoundsLaws.{Rounding}
use Rattle.pending.proofs.rounds.Pump.round.Given as goal

abbrev pub invariant-loop-next : goal.invariant-loop-next
invariant-loop-next l =
    Kept l.initial.self l.self
    × Rounding l.initial.self.sizes l.most l.before l.count (pump_state l.initial.self) l.initial.list.numbers (pump_state l.self) l.list.numbers l.made l.list.count l.next
