-- The tests are those of `increment_plausible`, with start and without.
use Rattle.protocol.specs.Acceptance.{increment_plausible}
use Rattle.taking.proofs.take.is_increment_plausible.Goals as goal

pub returns-then-start : goal.returns-then-start
unfolding increment_plausible
returns-then-start c = rw c.if-start.true

pub returns-else-start : goal.returns-else-start
unfolding increment_plausible
returns-else-start c = rw c.if-start.false
