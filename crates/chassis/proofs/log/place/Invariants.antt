-- The invariant: what follows `at` begins with the message whose number is the counter (`Walk`).
use Rattle.chassis.proofs.LogWalkLaws.{Walk}
use Rattle.chassis.proofs.log.place.Given as goal

abbrev pub invariant-loop : goal.invariant-loop
invariant-loop l = Walk l.q l.log l.counter l.at
