-- The invariant: `stop` is the next stop as far as the receivers passed say.
use Rattle.lent.specs.Lent.{NextStop}
use Rattle.lent.proofs.Replicas.next_stop.Given as goal

abbrev pub invariant-loop-receiver : goal.invariant-loop-receiver
invariant-loop-receiver l = NextStop l.self l.sender l.passed l.made l.receiver l.stop
