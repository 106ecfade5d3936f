-- The invariant: the links from the senders so far, on which one waits, are listed (`ListedTo`).
use Rattle.pending.specs.Rounds.{pump_state, ListedTo}
use Rattle.pending.proofs.rounds.OpenLinks.push_waiting.Given as goal

abbrev pub invariant-loop-sender : goal.invariant-loop-sender
invariant-loop-sender l = ListedTo l.pump.sizes (pump_state l.pump) l.receiver l.sender l.initial.self l.self
