-- A replica that is right has the word.
use Rattle.std.proofs.Common.{sym, ◌∙◌}
use Rattle.replica_model.specs.Calls.{active_on}
use Rattle.replica_model.proofs.RowLaws.{right_facts}
use Rattle.layout.specs.WordsLaws.{head_inside}
use Rattle.replica.proofs.read.active_counters.Goals as goal

pub returns-else-is_right : goal.returns-else-is_right
unfolding active_on
returns-else-is_right c = rw (sym c.is_right.ensures ∙ c.if-is_right.false)

pub active_counters-requires : goal.active_counters-requires
active_counters-requires c = head_inside _ (right_facts _ (sym c.is_right.ensures ∙ c.if-is_right.true))

pub returns-then-is_right : goal.returns-then-is_right
unfolding active_on
returns-then-is_right c = rw (sym c.is_right.ensures ∙ c.if-is_right.true, c.active_counters.ensures)
