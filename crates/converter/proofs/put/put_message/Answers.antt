-- By the kind in the header: what is written is the message in the other version (`moved_clear`, `moved_increment`), and as long as it.
use Rattle.std.proofs.Common.{◌≡◌, sym, ◌∙◌, arith}
use Rattle.wire.specs.Number.{Bytes, int_at}
use Rattle.wire.specs.Message.{clear_kind, kind_at}
use Rattle.wire.specs.MessagePartsLaws.{header_read}
use Rattle.wire.specs.RoundTrips.{read_long, read_exact}
use Rattle.converter.specs.PutLaws.{moved_clear, moved_clear_long, moved_increment, moved_increment_long}
use Rattle.converter.proofs.put.put_message.Goals as goal

pub header-header-requires : goal.header-header-requires
header-header-requires c = omega (arith, read_long _ _ c.requires.0)

pub put_clear-requires : goal.put_clear-requires
put_clear-requires c =
    let clear : int_at c.args.message.now kind_at ≡ clear_kind = sym (header_read _ _ c.header-header.ensures.0).kind ∙ c.if-header.true in
    let long = moved_clear_long c.args.to c.args.message.now (λ i. omega (arith, c.type_inv.message i)) c.requires.0 clear in
    (omega (arith, read_long _ _ c.requires.0), omega (arith, long, c.requires.1))

pub returns-then-header : goal.returns-then-header
returns-then-header c =
    let bytes : Bytes c.args.message.now = λ i. omega (arith, c.type_inv.message i) in
    let clear : int_at c.args.message.now kind_at ≡ clear_kind = sym (header_read _ _ c.header-header.ensures.0).kind ∙ c.if-header.true in
    (moved_clear_long c.args.to c.args.message.now bytes c.requires.0 clear, c.put_clear.ensures ∙ rw (moved_clear c.args.to c.args.message.now bytes c.requires.0 clear))

pub put_increment-requires : goal.put_increment-requires
put_increment-requires c =
    let other = λ (e : int_at c.args.message.now kind_at ≡ clear_kind). c.if-header.false ((header_read _ _ c.header-header.ensures.0).kind ∙ e) in
    let long = moved_increment_long c.args.to c.args.message.now other in
    (omega (arith, read_exact _ _ c.requires.0 other), omega (arith, long, c.requires.1))

pub returns-else-header : goal.returns-else-header
returns-else-header c =
    let bytes : Bytes c.args.message.now = λ i. omega (arith, c.type_inv.message i) in
    let other = λ (e : int_at c.args.message.now kind_at ≡ clear_kind). c.if-header.false ((header_read _ _ c.header-header.ensures.0).kind ∙ e) in (
      c.put_increment.ensures.0 ∙ moved_increment_long c.args.to c.args.message.now other,
      c.put_increment.ensures.1 ∙ rw (moved_increment c.args.to c.args.message.now bytes c.requires.0 other),
    )
