-- The length that the first message asks for is its own, and taken alone it reads; it is written behind what is written, and the rest is left.
use Rattle.std.proofs.Common.{◌≡◌, ◌<◌, sym, ◌∙◌, length, arith, length-drop}
use Rattle.std.proofs.lemmas.Bool.{eqb-false, eqb-true}
use Rattle.wire.specs.Message.{front_length}
use Rattle.conversion.proofs.LogLaws.{front_there}
use Rattle.converter.specs.FirstLaws.{rest_is, rest_put, first_long, first_called}
use Rattle.converter.specs.PutLaws.{first_reads, putting_begins, putting_some, putting_room, putting_next, putting_ends}
use Rattle.converter.proofs.put.put_log.Goals as goal

pub loop-rest-init : goal.loop-rest-init
loop-rest-init c = putting_begins _ _ _ _ (λ i. omega (arith, c.type_inv.log i)) c.requires.0 c.requires.1

pub called_length_of-requires : goal.called_length_of-requires
called_length_of-requires c =
    let more : 0 < length c.loop-rest.rest.now = omega (arith, eqb-false (length c.loop-rest.rest.now) 0 (sym c.loop-rest-test.ensures)) in
    let some = putting_some _ _ _ _ _ _ _ c.loop-rest.invariant more in
    omega (arith, first_long _ _ some, (front_there _ _ some).inside)

pub split_at-requires : goal.split_at-requires
split_at-requires c =
    let more : 0 < length c.loop-rest.rest.now = omega (arith, eqb-false (length c.loop-rest.rest.now) 0 (sym c.loop-rest-test.ensures)) in
    let some = putting_some _ _ _ _ _ _ _ c.loop-rest.invariant more in
    let read : c.called_length_of.result ≡ front_length c.args.from c.loop-rest.rest.now = c.called_length_of.ensures ∙ first_called _ _ some in
    omega (arith, read, (front_there _ _ some).inside)

pub put_message-at-requires : goal.put_message-at-requires
put_message-at-requires c =
    let more : 0 < length c.loop-rest.rest.now = omega (arith, eqb-false (length c.loop-rest.rest.now) 0 (sym c.loop-rest-test.ensures)) in
    let some = putting_some _ _ _ _ _ _ _ c.loop-rest.invariant more in
    let read : c.called_length_of.result ≡ front_length c.args.from c.loop-rest.rest.now = c.called_length_of.ensures ∙ first_called _ _ some in
    let room = putting_room _ _ _ _ _ _ _ c.loop-rest.invariant more in
    rw (c.split_at.ensures.front, read, rest_is c.loop-rest.at c.loop-rest.out)
    (first_reads c.args.from c.args.to _ some, omega (arith, room, length-drop c.loop-rest.at c.loop-rest.out))

pub loop-rest-smaller : goal.loop-rest-smaller
loop-rest-smaller c =
    let more : 0 < length c.loop-rest.rest.now = omega (arith, eqb-false (length c.loop-rest.rest.now) 0 (sym c.loop-rest-test.ensures)) in
    let some = putting_some _ _ _ _ _ _ _ c.loop-rest.invariant more in
    let read : c.called_length_of.result ≡ front_length c.args.from c.loop-rest.rest.now = c.called_length_of.ensures ∙ first_called _ _ some in
    omega (arith, c.split_at.ensures.back_len, read, first_long _ _ some)

pub loop-rest-preserved : goal.loop-rest-preserved
loop-rest-preserved c =
    let more : 0 < length c.loop-rest.rest.now = omega (arith, eqb-false (length c.loop-rest.rest.now) 0 (sym c.loop-rest-test.ensures)) in
    let some = putting_some _ _ _ _ _ _ _ c.loop-rest.invariant more in
    let read : c.called_length_of.result ≡ front_length c.args.from c.loop-rest.rest.now = c.called_length_of.ensures ∙ first_called _ _ some in
    let done = rw (c.split_at.ensures.front, read, rest_is c.loop-rest.at c.loop-rest.out) at c.put_message-at.ensures in
    rw c.split_at.ensures.back
    (putting_next _ _ _ _ _ _ _ c.loop-rest.invariant more _ _ _ read done.0 (rest_put c.loop-rest.at c.loop-rest.out _ ∙ rw done.1))

pub returns : goal.returns
returns c =
    putting_ends _ _ _ _ _ _ _ c.loop-rest.invariant (eqb-true (length c.loop-rest.rest.now) 0 (sym c.loop-rest-test.ensures))
