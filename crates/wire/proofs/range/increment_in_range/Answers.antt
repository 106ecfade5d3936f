-- The tests are the definition, that of p taken from its call.
use Rattle.wire.specs.Message.{increment_in_range}
use Rattle.wire.proofs.range.increment_in_range.Goals as goal

pub returns : goal.returns
unfolding increment_in_range
returns c = rw c.from_one.ensures
