-- The invariant: the row is checked, the value is the sum, modulo 2^64, and the holders are the mask of the cards so far.
use Rattle.std.proofs.Common.{◌≡◌, ◌%◌, ◌^◌}
use Rattle.protocol.specs.Entry.{present}
use Rattle.protocol.proofs.Tables.{sum, bits}
use Rattle.replica_model.specs.Layout.{entry_of}
use Rattle.layout.specs.RowCheck.{Checked}
use Rattle.layout.specs.Totals.{held}
use Rattle.replica.proofs.read.row_reading.Given as goal

abbrev pub invariant-loop-card : goal.invariant-loop-card
invariant-loop-card l =
    let row = entry_of l.row.cards l.words l.row.counter in
    Checked l.words l.row.cards l.row.counter l.card l.high × (l.value ≡ sum l.card (held row) % 2 ^ 64) × (l.holders ≡ bits l.card (λ j. present (row j)))
