-- The tests in the order of the definition, on what was measured; the last of them, and the log's writing, are `convert`'s.
use Rattle.std.proofs.Common.{◌∙◌, sym, arith, rules}
use borrow.Author.Tests.{not-true, not-false}
use Rattle.converter.specs.CallLaws.{measured_log, down_unreadable, down_above_one, down_log, down_long}
use Rattle.converter.proofs.to_version_1.Goals as goal

pub returns-in_err-found : goal.returns-in_err-found
returns-in_err-found c =
    let declined = down_unreadable c.args.log.now c.args.out.now (sym c.in_err-found.ensures.ok_part ∙ c.measure.ensures.found) in
    rw (← declined) (search rules)

pub returns-then-not-found : goal.returns-then-not-found
returns-then-not-found c =
    down_above_one c.args.log.now c.args.out.now _ (sym c.in_ok-found.ensures.ok_part ∙ c.measure.ensures.found) (not-true _ c.if-not-found.true)

pub convert-requires : goal.convert-requires
convert-requires c =
    let is = sym c.in_ok-found.ensures.ok_part ∙ c.measure.ensures.found in
    ((measured_log _ _ _ is).log, down_long c.args.log.now c.args.out.now _ is (λ i. omega (arith, c.type_inv.log i)))

pub returns : goal.returns
returns c =
    c.convert.ensures ∙ sym (down_log c.args.log.now c.args.out.now _ (sym c.in_ok-found.ensures.ok_part ∙ c.measure.ensures.found) (not-false _ c.if-not-found.false))
