-- What is found of the entries that are left, from the place where the next one stands, is what is found of all.
use Rattle.std.proofs.Common.{◌≡◌, ◌-◌, sym, ◌∙◌, arith}
use Rattle.wire.specs.Message.{entries_at, entries_in_range}
use Rattle.wire.specs.EntriesLaws.{entries_passed, entries_failed}
use Rattle.wire.proofs.decode.are_entries_in_range.Goals as goal

pub returns-then-not-entry_in_range : goal.returns-then-not-entry_in_range
returns-then-not-entry_in_range c =
    let at = c.loop in
    entries_failed _ at.low at.counter c.args.count at.rest.src.now at.rest.at c.entry-entry.result c.loop-test.true c.entry-entry.ensures.0 at.invariant.1
    (sym c.entry_in_range.ensures ∙ c.if-not-entry_in_range.true)

pub loop-preserved : goal.loop-preserved
loop-preserved c =
    let at = c.loop in
    let passed = entries_passed _ at.low at.counter c.args.count at.rest.src.now at.rest.at c.entry-entry.result c.loop-test.true c.entry-entry.ensures.0 at.invariant.1
    c.next_card-low.result c.entry-entry.new.self.at (sym c.entry_in_range.ensures ∙ c.if-not-entry_in_range.false) c.next_card-low.ensures c.entry-entry.ensures.2 in
    rw c.entry-entry.ensures.1 (omega (arith, c.entry-entry.ensures.2, at.invariant.0, c.loop-test.true), passed)

pub returns : goal.returns
unfolding entries_at entries_in_range
returns c =
    let none : c.args.count - c.loop.counter ≡ 0 = omega arith in
    rw none at c.loop.invariant.1
