-- By its test.
use Rattle.std.proofs.Common.{arith}
use Rattle.sending.specs.CountLaws.{counted_on, counted_anew}
use Rattle.sending.proofs.counting.counted_entry.Goals as goal

pub returns-then-e-gt0 : goal.returns-then-e-gt0
returns-then-e-gt0 c = (counted_on _ _ _ c.requires.0 c.requires.2 c.requires.4 c.if-e-gt0.true, omega arith)

pub returns-else-e-gt0 : goal.returns-else-e-gt0
returns-else-e-gt0 c = (counted_anew _ _ _ c.requires.0 c.requires.2 c.requires.4 c.if-e-gt0.false, omega arith)
