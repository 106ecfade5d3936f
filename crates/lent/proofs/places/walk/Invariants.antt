-- The invariant: `place` is the end of the first n messages, and those behind the first `from` are the sender's of their numbers (`Arrived`).
use Rattle.lent.specs.Lent.{Arrived}
use Rattle.lent.proofs.places.walk.Given as goal

abbrev pub invariant-loop-n : goal.invariant-loop-n
invariant-loop-n l = Arrived l.log l.sender l.from l.n l.place
