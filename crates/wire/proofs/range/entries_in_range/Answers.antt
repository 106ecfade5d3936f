-- What is found of the entries that are left is what is found of all.
use Rattle.std.proofs.Common.{◌≡◌, length, sym, ◌∙◌, arith}
use Rattle.wire.specs.EntriesLaws.{next_passed, next_failed, all_tested}
use Rattle.wire.proofs.range.entries_in_range.Goals as goal

pub returns-then-not-entry_in_range : goal.returns-then-not-entry_in_range
returns-then-not-entry_in_range c =
    let at = c.loop-entry in
    next_failed _ at.low at.entry-index c.args.entries.now c.loop-entry-test.true at.invariant (sym c.entry_in_range.ensures ∙ c.if-not-entry_in_range.true)

pub loop-entry-preserved : goal.loop-entry-preserved
loop-entry-preserved c =
    let at = c.loop-entry in
    next_passed _ at.low at.entry-index c.args.entries.now c.loop-entry-test.true at.invariant c.next_card-low.result
    (sym c.entry_in_range.ensures ∙ c.if-not-entry_in_range.false) c.next_card-low.ensures

pub returns : goal.returns
returns c =
    let at = c.loop-entry in
    let all : at.entry-index ≡ length c.args.entries.now = omega arith in
    sym (all_tested at.low c.args.entries.now) ∙ rw all at at.invariant
