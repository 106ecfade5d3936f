-- The words passed are joined. C and N lie behind the head, 2 * r words in all.
use Rattle.std.proofs.Common.{◌≡◌}
use Rattle.layout.specs.RowCheck.{joined}
use Rattle.layout.proofs.words.counts_joined.Given as goal

abbrev pub invariant-loop-count : goal.invariant-loop-count
invariant-loop-count l = l.all ≡ joined l.count-index l.words
