-- By the tests, which are the definition's.
use Rattle.std.proofs.Common.{eq-eqb, ne_eqb}
use Rattle.chassis_model.specs.Run.{amount_fits}
use Rattle.chassis.proofs.stepping.does_amount_fit.Goals as goal

pub returns-then-s-eq-COUNT : goal.returns-then-s-eq-COUNT
unfolding amount_fits
returns-then-s-eq-COUNT c = rw (eq-eqb _ _ c.if-s-eq-COUNT.true)

pub returns-else-s-eq-COUNT : goal.returns-else-s-eq-COUNT
unfolding amount_fits
returns-else-s-eq-COUNT c = rw (ne_eqb _ _ c.if-s-eq-COUNT.false)
