-- The first entry that fails decides at once; behind the loop the rest does (`Checked`).
use Rattle.layout.specs.RowCheck.{Checked}
use Rattle.layout.proofs.words.Row.is_well_formed_beside.Given as goal

abbrev pub invariant-loop-card : goal.invariant-loop-card
invariant-loop-card l = Checked l.words l.self.cards l.self.counter l.card l.high
