-- The numbers, then the entries and the places past them, as the definition goes.
use Rattle.std.proofs.Common.{sym, ◌∙◌, arith}
use Rattle.protocol.proofs.Tests.{tests}
use Rattle.wire.specs.Message.{in_range}
use Rattle.wire.specs.Bounds.{body_few}
use Rattle.wire.proofs.encode.in_range.Goals as goal

pub returns-then-not-header-body_in_range : goal.returns-then-not-header-body_in_range
unfolding in_range
returns-then-not-header-body_in_range c = rw (← c.header_in_range-header.ensures, ← c.body_in_range.ensures, c.if-not-header-body_in_range.true)

pub split_at-requires : goal.split_at-requires
split_at-requires c =
    let m = c.args.m.now in
    let both = simp tests at c.if-not-header-body_in_range.false in
    omega (arith, body_few m.version m.kind m.p m.start m.amount m.len (sym c.body_in_range.ensures ∙ both.1))

pub returns-then-entries_in_range : goal.returns-then-entries_in_range
unfolding in_range
returns-then-entries_in_range c =
    rw (← c.header_in_range-header.ensures, ← c.body_in_range.ensures, c.if-not-header-body_in_range.false, ← c.split_at.ensures.front, ← c.split_at.ensures.back, ← c.entries_in_range.ensures, c.if-entries_in_range.true, ← c.unused.ensures)

pub returns-else-entries_in_range : goal.returns-else-entries_in_range
unfolding in_range
returns-else-entries_in_range c =
    rw (← c.header_in_range-header.ensures, ← c.body_in_range.ensures, c.if-not-header-body_in_range.false, ← c.split_at.ensures.front, ← c.entries_in_range.ensures, c.if-entries_in_range.false)
