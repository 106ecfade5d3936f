-- The larger entry, taken away if it is settled: that is `cleared` (`cleared_gone`, `cleared_stays`).
use Rattle.std.proofs.Common.{sym, ap, ◌∙◌}
use Rattle.protocol.specs.declared.Entry.{Entry}
use Rattle.replica_model.specs.Layout.{set_entry}
use Rattle.taking.specs.AbsentEntries.{cleared_gone, cleared_stays}
use Rattle.taking.proofs.effect.clear_entry.Goals as goal

pub returns-then-is_settled : goal.returns-then-is_settled
returns-then-is_settled c =
    c.put_absent.ensures
    ∙ ap (λ (x : Entry). set_entry c.args.row.cards c.args.row.counter c.args.entry.card x c.args.words.now)
    (cleared_gone c.args.entry.p c.args.entry.c _ _ c.requires.2 (c.larger_entry-lowered.ensures ∙ rw c.entry-e.ensures) c.increments_at-received.ensures (sym c.is_settled.ensures ∙ c.if-is_settled.true))

pub returns-else-is_settled : goal.returns-else-is_settled
returns-else-is_settled c =
    c.put_entry.ensures
    ∙ ap (λ (x : Entry). set_entry c.args.row.cards c.args.row.counter c.args.entry.card x c.args.words.now)
    (cleared_stays c.args.entry.p c.args.entry.c _ _ c.requires.2 (c.larger_entry-lowered.ensures ∙ rw c.entry-e.ensures) c.increments_at-received.ensures (sym c.is_settled.ensures ∙ c.if-is_settled.false))
