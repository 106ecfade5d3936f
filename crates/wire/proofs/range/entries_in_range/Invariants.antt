-- What is found of the entries that are left is what is found of all.
use Rattle.std.proofs.Common.{◌≡◌, drop}
use Rattle.wire.specs.Message.{entries_in_range}
use Rattle.wire.proofs.range.entries_in_range.Given as goal

abbrev pub invariant-loop-entry : goal.invariant-loop-entry
invariant-loop-entry l = entries_in_range l.low (drop l.entry-index l.entries) ≡ entries_in_range 0 l.entries
