-- So many as are present below `card` are counted.
use Rattle.std.proofs.Common.{◌≡◌, length}
use Rattle.protocol.specs.Chassis.{present_entries}
use Rattle.replica_model.specs.Layout.{entry_of}
use Rattle.sending.proofs.clearing.holders_of.Given as goal

abbrev pub invariant-loop-card : goal.invariant-loop-card
invariant-loop-card l = l.holders ≡ length (present_entries l.card (entry_of l.row.cards l.words l.row.counter))
