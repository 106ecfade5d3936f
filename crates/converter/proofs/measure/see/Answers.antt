-- By the kind in the header: a clear, or an increment with the amount that its version has.
use Rattle.std.proofs.Common.{◌≡◌, sym, ◌∙◌, arith}
use Rattle.wire.specs.Number.{int_at}
use Rattle.wire.specs.Message.{clear_kind, kind_at}
use Rattle.wire.specs.MessagePartsLaws.{header_read}
use Rattle.wire.specs.RoundTrips.{read_long, read_exact}
use Rattle.converter.specs.MeasureLaws.{seen_clear, seen_increment}
use Rattle.converter.proofs.measure.see.Goals as goal

pub header-header-requires : goal.header-header-requires
header-header-requires c = omega (arith, read_long _ _ c.requires)

pub returns-then-header : goal.returns-then-header
returns-then-header c =
    seen_clear c.args.version c.args.message.now (sym (header_read _ _ c.header-header.ensures.0).kind ∙ c.if-header.true)

pub increment-requires : goal.increment-requires
increment-requires c =
    let other = λ (e : int_at c.args.message.now kind_at ≡ clear_kind). c.if-header.false ((header_read _ _ c.header-header.ensures.0).kind ∙ e) in
    rw (c.header-header.ensures.1, c.header-header.ensures.2) (omega (arith, read_exact _ _ c.requires other))

pub amount-requires : goal.amount-requires
amount-requires c =
    let other = λ (e : int_at c.args.message.now kind_at ≡ clear_kind). c.if-header.false ((header_read _ _ c.header-header.ensures.0).kind ∙ e) in
    rw (c.increment.ensures.1, c.increment.ensures.2, c.header-header.ensures.1, c.header-header.ensures.2)
    (omega (arith, read_exact _ _ c.requires other))

pub returns : goal.returns
returns c =
    let other = λ (e : int_at c.args.message.now kind_at ≡ clear_kind). c.if-header.false ((header_read _ _ c.header-header.ensures.0).kind ∙ e) in
    seen_increment c.args.version c.args.message.now other _
    (rw (c.increment.ensures.1, c.increment.ensures.2, c.header-header.ensures.1, c.header-header.ensures.2) at c.amount.ensures.0)
