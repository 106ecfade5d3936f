-- The invariant: with what is left of the log written behind what is written, the output is what it has to be (`Putting`). The measure: the bytes left.
use Rattle.std.proofs.Common.{length}
use Rattle.converter.specs.PutLaws.{Putting}
use Rattle.converter.proofs.put.put_log.Given as goal

abbrev pub invariant-loop-rest : goal.invariant-loop-rest
invariant-loop-rest l = Putting l.from l.to l.log l.fn.out l.rest l.out l.at

abbrev pub decreases-loop-rest : goal.decreases-loop-rest
decreases-loop-rest l = length l.rest
