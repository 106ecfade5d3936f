-- The number's bytes are copied over a part as long as they are.
use Rattle.std.proofs.Common.{◌∙◌}
use Rattle.wire.specs.Number.{hyper_width}
use Rattle.wire.specs.NumberLaws.{part_stored}
use Rattle.wire.proofs.number.U64Unsigned.write.Goals as goal

pub returns : goal.returns
returns c = part_stored hyper_width c.args.at c.args.self c.args.out.now c.copy_from_slice.new.self c.requires (c.copy_from_slice.ensures.after ∙ c.to_be_bytes.ensures)
