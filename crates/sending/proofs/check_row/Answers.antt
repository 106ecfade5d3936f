-- Past the first test the row is well-formed.
use Rattle.std.proofs.Common.{sym, arith}
use Rattle.replica_model.proofs.RowLaws.{row_facts}
use Rattle.sending.proofs.check_row.Goals as goal

pub overflow_add-counted : goal.overflow_add-counted
overflow_add-counted c =
    let row = row_facts _ _ (sym c.if-not-is_well_formed.ensures) in
    omega (arith, c.increments_at-counted.ensures, c.own_card-own.ensures, row.tables.C≤MAX _ c.requires.0.right.own)
