-- The length, then the range tests, as the law of bytes with an increment's version and kind has them.
use Rattle.std.proofs.Common.{◌≡◌, sym, ◌∙◌}
use Rattle.wire.specs.Number.{int_at}
use Rattle.wire.specs.Message.{amount_at}
use Rattle.wire.specs.MessageLaws.{reads_increment_inexact, reads_with_amount, reads_without_amount}
use Rattle.wire.specs.RangeLaws.{known_header}
use Rattle.wire.specs.MessagePartsLaws.{header_read, increment_read}
use Rattle.wire.proofs.decode.does_increment_read.Goals as goal

pub returns-then-rest-increment_length : goal.returns-then-rest-increment_length
returns-then-rest-increment_length c =
    let s = c.args.rest.src.now in
    let h = header_read s c.args.header c.requires.0 in
    reads_increment_inexact c.args.version s (sym h.version ∙ c.requires.2) (sym h.kind ∙ c.requires.3) (λ e. c.if-rest-increment_length.true (e ∙ sym c.increment_length.ensures))

pub returns-then-has_amount : goal.returns-then-has_amount
returns-then-has_amount c =
    let s = c.args.rest.src.now in
    let header = c.args.header in
    let version = c.args.version in
    let h = header_read s header c.requires.0 in
    let body = c.increment-body in
    let b = increment_read s body.result (rw c.requires.1 at body.ensures.0) in
    let amount : c.next-amount.result ≡ int_at s amount_at = c.next-amount.ensures.0 ∙ rw (body.ensures.1, body.ensures.2, c.requires.1) in
    let rest = c.rest_in_range.ensures ∙ known_header version header.sender header.sequence header.counter c.requires.4 in
    rw (rest, c.increment_in_range.ensures, c.is_amount.ensures, c.from.ensures, amount, b.p, b.start, h.sender, h.sequence, h.counter)
    (sym (reads_with_amount version s (sym h.version ∙ c.requires.2) (sym h.kind ∙ c.requires.3) (c.if-rest-increment_length.false ∙ c.increment_length.ensures) (sym c.has_amount.ensures ∙ c.if-has_amount.true)))

pub returns-else-has_amount : goal.returns-else-has_amount
returns-else-has_amount c =
    let s = c.args.rest.src.now in
    let header = c.args.header in
    let version = c.args.version in
    let h = header_read s header c.requires.0 in
    let body = c.increment-body in
    let b = increment_read s body.result (rw c.requires.1 at body.ensures.0) in
    let rest = c.rest_in_range.ensures ∙ known_header version header.sender header.sequence header.counter c.requires.4 in
    rw (rest, c.increment_in_range.ensures, b.p, b.start, h.sender, h.sequence, h.counter)
    (sym (reads_without_amount version s (sym h.version ∙ c.requires.2) (sym h.kind ∙ c.requires.3) (c.if-rest-increment_length.false ∙ c.increment_length.ensures) (sym c.has_amount.ensures ∙ c.if-has_amount.false)))
