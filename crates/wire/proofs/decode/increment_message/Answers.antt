-- The message is made of the parts that were read.
use Rattle.std.proofs.Common.{◌≡◌, sym, ◌∙◌, arith}
use Rattle.wire.specs.Message.{amount_in, amount_at, increment_message}
use Rattle.wire.specs.MessagePartsLaws.{header_read, increment_read}
use Rattle.wire.specs.RoundTrips.{read_exact, read_increment}
use Rattle.wire.proofs.decode.increment_message.Goals as goal

pub increment-body-requires : goal.increment-body-requires
increment-body-requires c =
    let s = c.args.rest.src.now in
    let h = header_read s c.args.header c.requires.1 in
    omega (arith, read_exact c.args.header.version s c.requires.0 (λ e. c.requires.3 (h.kind ∙ e)))

pub amount-amount-requires : goal.amount-amount-requires
amount-amount-requires c =
    let s = c.args.rest.src.now in
    let h = header_read s c.args.header c.requires.1 in
    rw c.increment-body.ensures.1 (omega (arith, c.increment-body.ensures.2, read_exact c.args.header.version s c.requires.0 (λ e. c.requires.3 (h.kind ∙ e))))

pub returns : goal.returns
unfolding increment_message
returns c =
    let s = c.args.rest.src.now in
    let header = c.args.header in
    let body = c.increment-body in
    let h = header_read s header c.requires.1 in
    let b = increment_read s body.result (rw c.requires.2 at body.ensures.0) in
    let amount : c.amount-amount.result ≡ amount_in header.version s amount_at = c.amount-amount.ensures.0 ∙ rw (body.ensures.1, body.ensures.2, c.requires.2) in
    rw (amount, b.p, b.start, h.sender, h.sequence, h.counter) (sym (read_increment header.version s (λ e. c.requires.3 (h.kind ∙ e))))
