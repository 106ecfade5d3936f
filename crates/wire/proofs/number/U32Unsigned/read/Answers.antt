-- The part of the bytes that is converted is as long as the number.
use Rattle.std.proofs.Common.{◌∙◌}
use Rattle.wire.specs.NumberLaws.{int_converted}
use Rattle.wire.proofs.number.U32Unsigned.read.Goals as goal

pub returns : goal.returns
returns c = c.from_be_bytes.ensures ∙ int_converted c.args.bytes.now c.args.at c.unwrap.result (rw c.unwrap.ensures at c.try_into.ensures.1).same
