-- The raised entry, taken away if it is finished: that is `incremented`. Where it is taken away the row stays, and its bit is found by a look at the others.
use Rattle.std.proofs.Common.{sym, ap, ◌∙◌}
use Rattle.protocol.specs.declared.Entry.{Entry}
use Rattle.replica_model.specs.Layout.{set_entry, mark}
use Rattle.taking.specs.AbsentEntries.{increment_gone, increment_stays}
use Rattle.taking.proofs.effect.put_increment.Goals as goal

pub returns-then-is_finished : goal.returns-then-is_finished
returns-then-is_finished c =
    c.mark.ensures
    ∙ ap (mark c.args.row.cards c.args.row.counter) c.put_absent.ensures
    ∙ ap (λ (x : Entry). mark c.args.row.cards c.args.row.counter (set_entry c.args.row.cards c.args.row.counter c.args.j x c.args.words.now))
    (increment_gone _ _ _ _ _ (c.raised_entry-raised.ensures ∙ rw (c.entry-e.ensures, c.increments_at-received.ensures)) c.increments_at-received.ensures (sym c.is_finished.ensures ∙ c.if-is_finished.true))

pub returns-else-is_finished : goal.returns-else-is_finished
returns-else-is_finished c =
    c.put_present.ensures
    ∙ ap (λ (x : Entry). mark c.args.row.cards c.args.row.counter (set_entry c.args.row.cards c.args.row.counter c.args.j x c.args.words.now))
    (increment_stays _ _ _ _ _ (c.raised_entry-raised.ensures ∙ rw (c.entry-e.ensures, c.increments_at-received.ensures)) c.increments_at-received.ensures (sym c.is_finished.ensures ∙ c.if-is_finished.false))
