-- The invariant: the links to the receivers so far, on which one waits, are listed (`Listed`).
use Rattle.pending.specs.Rounds.{pump_state, Listed}
use Rattle.pending.proofs.rounds.OpenLinks.waiting.Given as goal

abbrev pub invariant-loop-receiver : goal.invariant-loop-receiver
invariant-loop-receiver l = Listed l.pump.sizes (pump_state l.pump) l.receiver l.list
