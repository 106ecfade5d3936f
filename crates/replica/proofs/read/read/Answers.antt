-- A refusal before the row is the call's (`counter_refused`); else the row decides (`counter_passed`).
use Rattle.std.proofs.Common.{[], ◌∷◌, ◌∙◌}
use Rattle.std.proofs.lemmas.Result.{err_from_is_err_and}
use Rattle.protocol.specs.Limits.{bad_row}
use Rattle.protocol.specs.Checks.{or_else}
use Rattle.replica_model.specs.Calls.{row_well_formed, no_reading, reading, read_on}
use Rattle.layout.specs.WordsLaws.{counter_refused, counter_passed}
use Rattle.replica.proofs.read.read.Goals as goal

pub returns-in_err-row : goal.returns-in_err-row
unfolding read_on
returns-in_err-row c =
    let b = c.args.words.now in
    let q = c.args.counter in
    let p = err_from_is_err_and c.from_residual.result c.from_residual.ensures.1 in
    rw (p.1, p.2) (counter_refused b q no_reading (or_else (row_well_formed b q) bad_row ∷ []) (reading b q) c.in_err-row.field-0.0 c.in_err-row.ensures.checked)

pub returns : goal.returns
unfolding read_on
returns c =
    let b = c.args.words.now in
    let q = c.args.counter in
    let found = c.in_ok-row.ensures.row in
    (rw found.1 at c.row_reading.ensures) ∙ counter_passed b q no_reading (or_else (row_well_formed b q) bad_row ∷ []) (reading b q) _ (rw found.1 at found.0)
