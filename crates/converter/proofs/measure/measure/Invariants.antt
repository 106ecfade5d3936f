-- The invariant: what is found of the bytes that are left, with what was counted, is what is found of all (`Walked`). The measure: the bytes left.
use Rattle.std.proofs.Common.{length}
use Rattle.converter.specs.MeasureLaws.{Walked}
use Rattle.converter.proofs.measure.measure.Given as goal

abbrev pub invariant-loop-rest : goal.invariant-loop-rest
invariant-loop-rest l = Walked l.version l.log l.by_one l.increments l.rest

abbrev pub decreases-loop-rest : goal.decreases-loop-rest
decreases-loop-rest l = length l.rest
