use Rattle.std.proofs.Common.{◌<◌, ◌∙◌, sym, length, arith}
use Rattle.std.proofs.lemmas.Bool.{eqb-false, eqb-true}
use Rattle.conversion.proofs.LogLaws.{front_there}
use Rattle.converter.specs.FirstLaws.{front_of, front_none}
use Rattle.converter.specs.MeasureLaws.{walk_begins, walk_next, walk_stops, walk_ends}
use Rattle.converter.proofs.measure.measure.Goals as goal

pub loop-rest-init : goal.loop-rest-init
loop-rest-init c = walk_begins _ _ (λ i. omega (arith, c.type_inv.log i))

pub returns-in_err-length-clause-found : goal.returns-in_err-length-clause-found
returns-in_err-length-clause-found c =
    let more : 0 < length c.loop-rest.rest.now = omega (arith, eqb-false (length c.loop-rest.rest.now) 0 (sym c.loop-rest-test.ensures)) in
    c.from_residual.ensures ∙ walk_stops _ _ _ _ _ c.loop-rest.invariant (front_none _ _ c.in_err-length.ensures.length) more

pub see-seen-requires : goal.see-seen-requires
see-seen-requires c =
    let front = front_of c.args.version c.loop-rest.rest.now c.in_ok-length.length c.in_ok-length.ensures.length in
    rw (c.split_at.ensures.front, front.0) (front_there _ _ front.1).alone

-- the message is passed
pub loop-rest-preserved : goal.loop-rest-preserved
loop-rest-preserved c =
    let front = front_of c.args.version c.loop-rest.rest.now c.in_ok-length.length c.in_ok-length.ensures.length in
    let seen = rw c.split_at.ensures.front at c.see-seen.ensures in
    rw c.split_at.ensures.back (walk_next _ _ _ _ _ c.loop-rest.invariant _ _ _ front.0 front.1 seen.0 seen.1)

pub returns-clause-found : goal.returns-clause-found
returns-clause-found c = walk_ends _ _ _ _ _ c.loop-rest.invariant (eqb-true (length c.loop-rest.rest.now) 0 (sym c.loop-rest-test.ensures))
