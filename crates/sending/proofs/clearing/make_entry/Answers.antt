-- An absent entry adds nothing (`made_absent`). A present one is three numbers stored side by side (`entry_written`); then it is put back, cleared, and the row's bit with it
-- (`made_ahead`), or goes (`made_gone`).
use Rattle.std.proofs.Common.{◌≡◌, ◌<◌, ◌∙◌, arith}
use borrow.Author.Tests.{lt-ltb, le-ltb}
use Rattle.wire.specs.Message.{entries_bytes}
use Rattle.replica_model.specs.Layout.{entry_of}
use Rattle.sending.specs.ClearLaws.{entry_written, made_absent, made_ahead, made_gone}
use Rattle.sending.proofs.clearing.make_entry.Goals.{then-received-e, else-received-e}
use Rattle.sending.proofs.clearing.make_entry.Goals as goal

pub returns-then-entry-eq0 : goal.returns-then-entry-eq0
unfolding entries_bytes
returns-then-entry-eq0 c =
    let M = entry_of c.args.row.cards c.args.words.now c.args.row.counter c.args.card in
    let none : M.p ≡ 0 = rw c.entry.ensures at c.if-entry-eq0.true in
    let gone = le-ltb 0 M.p (omega arith) in
    (rw gone (omega arith), made_absent _ _ _ _ none, rw gone)

pub returns : goal.returns
returns c =
    let M = entry_of c.args.row.cards c.args.words.now c.args.row.counter c.args.card in
    let left = rw c.entry.ensures at c.if-entry-eq0.false in
    let some : 0 < M.p = omega arith in
    let one = lt-ltb 0 M.p some in (
      rw one,
      elim c.if-received-e.branch [
        | then-received-e w ↦ w.words-is
            ∙ made_ahead _ _ _ _ c.requires.0 c.requires.1 c.requires.2 some _ _ c.entry-e.ensures c.increments_at-received.ensures w.if-received-e.true _ w.put_present.ensures
        | else-received-e w ↦ w.words-is
            ∙ made_gone _ _ _ _ c.requires.0 c.requires.1 c.requires.2 some _ _ c.entry-e.ensures c.increments_at-received.ensures w.if-received-e.false _ w.put_absent.ensures
      ],
      rw (one, c.write-3.ensures, c.entry-3.ensures, c.write-2.ensures, c.entry-2.ensures, c.write.ensures, c.clear_length-at.ensures)
          (entry_written _ _ _ _ _),
    )
