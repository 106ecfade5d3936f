-- The header and the numbers behind it are stretches side by side, the amount where the version has one.
use Rattle.std.proofs.Common.{sym, ◌∙◌}
use Rattle.wire.specs.WriteLaws.{increment_stored, amount_stored}
use Rattle.wire.proofs.encode.put_increment.Goals as goal

pub returns-then-has_amount : goal.returns-then-has_amount
returns-then-has_amount c =
    amount_stored c.args.m.now c.args.out.now c.put_header.new.out c.write.new.out c.write-2.new.out c.requires.0 c.requires.1
    c.put_header.ensures c.write.ensures c.write-2.ensures (sym c.has_amount.ensures ∙ c.if-has_amount.true) _ c.write-then-has_amount.ensures

pub returns-else-has_amount : goal.returns-else-has_amount
returns-else-has_amount c =
    increment_stored c.args.m.now c.args.out.now c.put_header.new.out c.write.new.out c.write-2.new.out c.requires.0 c.requires.1
    c.put_header.ensures c.write.ensures c.write-2.ensures (sym c.has_amount.ensures ∙ c.if-has_amount.false)
