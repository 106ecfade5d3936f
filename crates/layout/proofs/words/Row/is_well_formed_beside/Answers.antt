use Rattle.std.proofs.Common.{sym}
use Rattle.layout.specs.RowCheck.{check_begins, check_turn, check_fails}
use Rattle.layout.proofs.words.Row.is_well_formed_beside.Goals as goal

pub loop-card-init : goal.loop-card-init
loop-card-init c = check_begins

pub returns-then-not-is_entry_ordered : goal.returns-then-not-is_entry_ordered
returns-then-not-is_entry_ordered c =
    sym (check_fails c.loop-card.invariant c.requires.0.first c.loop-card-test.true (rw c.entry-e.ensures at (c.is_entry_ordered.ensures.1 c.if-not-is_entry_ordered.true)))

pub loop-card-preserved : goal.loop-card-preserved
loop-card-preserved c =
    rw c.entry-e.ensures (check_turn c.loop-card.invariant c.loop-card-test.true (rw c.entry-e.ensures at (c.is_entry_ordered.ensures.0 c.if-not-is_entry_ordered.false)))
