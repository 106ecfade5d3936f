-- A step that has something against itself, and one that no arm takes, leaves all as it is (`maker_declined`, `link_declined`, `declined_did`).
use Rattle.std.proofs.Common.{refl, arith}
use Rattle.std.proofs.lemmas.Result.{err_from_is_err_and}
use Rattle.protocol.specs.Limits.{bad_kind}
use Rattle.chassis_model.specs.declared.Action.TheVariants.{Nothing}
use Rattle.chassis.specs.StepCodeLaws.{declined_did, maker_declined, link_declined}
use Rattle.chassis.proofs.stepping.Chassis.step.Goals as goal

pub returns-in_err-check_maker-in-Make-clause-done : goal.returns-in_err-check_maker-in-Make-clause-done
returns-in_err-check_maker-in-Make-clause-done c =
    let e = c.in_err-check_maker-in-Make.field-0.0 in
    let p = err_from_is_err_and c.from_residual.result c.from_residual.ensures.1 in
    rw (p.1, p.2, ← c.in-Make.ensures, ← c.does_amount_fit-fits.ensures)
    (maker_declined c.args.self.now.sizes _ c.in-Make.making c.in-Make.card c.in-Make.counter c.does_amount_fit-fits.result e c.in_err-check_maker-in-Make.ensures)

pub returns-in_err-check_link-in-Deliver-clause-done : goal.returns-in_err-check_link-in-Deliver-clause-done
returns-in_err-check_link-in-Deliver-clause-done c =
    let e = c.in_err-check_link-in-Deliver.field-0.0 in
    let back = c.from_residual-in_err-check_link-in-Deliver in
    let p = err_from_is_err_and back.result back.ensures.1 in
    rw (p.1, p.2, ← c.in-Deliver.ensures, ← c.does_amount_fit-fits.ensures)
    (link_declined c.args.self.now.sizes _ c.in-Deliver.receiver c.in-Deliver.sender c.does_amount_fit-fits.result e c.in_err-check_link-in-Deliver.ensures)

pub returns-in-Nothing-clause-done : goal.returns-in-Nothing-clause-done
returns-in-Nothing-clause-done c = rw (← c.in-Nothing.ensures) (declined_did c.args.self.now.sizes _ Nothing _ bad_kind (λ e. omega arith) refl)
