-- The called length, the room for it, and the test of exactly those bytes, as the definition goes.
use Rattle.std.proofs.Common.{◌<◌, length, refl, ◌∙◌, arith}
use Rattle.std.proofs.lemmas.Slice.{between_from_start}
use Rattle.wire.specs.Message.{called_length}
use Rattle.wire.specs.MessageLaws.{called_length_least, front_length_short, front_length_read}
use Rattle.wire.proofs.decode.front_length.Goals as goal

pub returns-then-bytes-lt-EMPTY_CLEAR_BYTES-clause-length : goal.returns-then-bytes-lt-EMPTY_CLEAR_BYTES-clause-length
returns-then-bytes-lt-EMPTY_CLEAR_BYTES-clause-length c =
    let s = c.args.bytes.now in
    let short : length s < called_length c.args.version s = omega (arith, called_length_least c.args.version s) in
    front_length_short c.args.version s (called_length c.args.version s) refl short

pub returns-in_err-front-clause-length : goal.returns-in_err-front-clause-length
returns-in_err-front-clause-length c =
    let s = c.args.bytes.now in
    let called = c.called_length_of-called in
    let short : length s < called.result = omega (arith, c.in_err-front.ensures.lookup) in
    c.from_residual.ensures ∙ front_length_short c.args.version s called.result called.ensures short

pub returns-clause-length : goal.returns-clause-length
returns-clause-length c =
    let s = c.args.bytes.now in
    let called = c.called_length_of-called in
    let front = c.in_ok-front.ensures.lookup.0 in
    c.then_some.ensures
    ∙ front_length_read c.args.version s called.result called.ensures front.1 c.reads.result (c.reads.ensures ∙ rw (front.2, between_from_start s called.result))
