-- The ranges, then the room and the kind in turn. Each return is the outcome that the laws of writing give there.
use Rattle.std.proofs.Common.{sym, ◌∙◌, arith}
use borrow.Author.Tests.{eq-eqb}
use Rattle.wire.specs.Message.{clear_kind}
use Rattle.wire.specs.Bounds.{len_few}
use Rattle.wire.specs.WriteLaws.{write_unfit, write_short, write_done}
use Rattle.wire.proofs.encode.write_message.Goals as goal

pub returns-then-not-in_range : goal.returns-then-not-in_range
returns-then-not-in_range c = write_unfit c.args.m c.args.out.now (sym c.in_range.ensures ∙ c.if-not-in_range.true)

pub length_of-length-requires : goal.length_of-length-requires
length_of-length-requires c = len_few c.args.m (sym c.in_range.ensures ∙ c.if-not-in_range.false)

pub returns-then-out-length : goal.returns-then-out-length
returns-then-out-length c =
    write_short c.args.m c.args.out.now c.length_of-length.result c.length_of-length.ensures (sym c.in_range.ensures ∙ c.if-not-in_range.false) c.if-out-length.true

pub put_clear-requires : goal.put_clear-requires
put_clear-requires c =
    let long = rw (eq-eqb c.args.m.kind clear_kind c.if-m.true) at c.length_of-length.ensures in
    (c.if-m.true, len_few c.args.m (sym c.in_range.ensures ∙ c.if-not-in_range.false), omega (arith, long, c.if-out-length.false))

pub returns-then-m : goal.returns-then-m
returns-then-m c =
    write_done c.args.m c.args.out.now c.length_of-length.result c.put_clear.new.out c.length_of-length.ensures (sym c.in_range.ensures ∙ c.if-not-in_range.false) c.if-out-length.false c.put_clear.ensures

pub returns-else-m : goal.returns-else-m
returns-else-m c =
    write_done c.args.m c.args.out.now c.length_of-length.result c.put_increment.new.out c.length_of-length.ensures (sym c.in_range.ensures ∙ c.if-not-in_range.false) c.if-out-length.false c.put_increment.ensures
