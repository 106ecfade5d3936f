-- By the version, as the definition goes.
use Rattle.std.proofs.Common.{sym, ◌∙◌}
use Rattle.wire.specs.Message.{amount_in_range}
use Rattle.wire.proofs.range.amount_in_range.Goals as goal

pub returns-then-has_amount : goal.returns-then-has_amount
unfolding amount_in_range
returns-then-has_amount c = rw (sym c.has_amount.ensures ∙ c.if-has_amount.true, ← c.from.ensures) c.is_amount.ensures

pub returns-else-has_amount : goal.returns-else-has_amount
unfolding amount_in_range
returns-else-has_amount c = rw (sym c.has_amount.ensures ∙ c.if-has_amount.false)
