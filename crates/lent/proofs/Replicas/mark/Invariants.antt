-- The invariant: the receivers passed are marked, and no other place has moved (`Marked`).
use Rattle.lent.specs.Lent.{Marked}
use Rattle.lent.proofs.Replicas.mark.Given as goal

abbrev pub invariant-loop-receiver : goal.invariant-loop-receiver
invariant-loop-receiver l = Marked l.self l.sender l.number l.at l.receiver l.initial.places l.places
