-- By the kind, as the definition goes.
use borrow.Author.Tests.{eq-eqb, ne_eqb}
use Rattle.wire.specs.Message.{clear_kind, called_length}
use Rattle.wire.specs.MessagePartsLaws.{header_read}
use Rattle.wire.proofs.decode.called_length_of.Goals as goal

pub returns-then-header : goal.returns-then-header
unfolding called_length
returns-then-header c =
    let h = header_read c.args.bytes.now c.header-header.result c.header-header.ensures.0 in
    rw (c.clear_length.ensures, c.next-count.ensures.0, c.header-header.ensures.1, c.header-header.ensures.2, ← h.kind, eq-eqb _ clear_kind c.if-header.true)

pub returns-else-header : goal.returns-else-header
unfolding called_length
returns-else-header c =
    let h = header_read c.args.bytes.now c.header-header.result c.header-header.ensures.0 in
    rw (c.increment_length.ensures, ← h.kind, ne_eqb _ clear_kind c.if-header.false)
