-- By the kind; each side then is the definition.
use Rattle.wire.specs.Message.{clear_in_range}
use Rattle.wire.specs.KindLaws.{names_clear}
use Rattle.wire.proofs.range.body_in_range.Goals as goal

pub returns-in-Ok-Clear : goal.returns-in-Ok-Clear
unfolding clear_in_range
returns-in-Ok-Clear c = rw (names_clear c.args.kind (cc))
