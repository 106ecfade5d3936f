-- Every p passed is joined. What is joined is 0 exactly where each is (`p_joined_some`).
use Rattle.std.proofs.Common.{◌≡◌}
use Rattle.layout.specs.RowCheck.{p_joined}
use Rattle.layout.proofs.words.Row.has_entry.Given as goal

abbrev pub invariant-loop-card : goal.invariant-loop-card
invariant-loop-card l = l.all ≡ p_joined l.self.cards l.words l.self.counter l.card
