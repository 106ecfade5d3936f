-- A refusal before the message is made is the call's (`counter_found`, `row_found`, `read_and_clear_refused`); where there is none (`read_and_clear_passed`) the room decides.
use Rattle.std.proofs.Common.{◌≡◌, ℕ, List, Bool, true, length, leb, refl, sym, ap, ◌∙◌}
use Rattle.std.proofs.lemmas.Result.{err_from_is_err_and}
use borrow.Author.Tests.{leb-true, leb-false}
use Rattle.protocol.specs.Chassis.{Message, present_entries}
use Rattle.protocol.proofs.RefusalLaws.{refusal_some}
use Rattle.wire.specs.Message.{clear_length}
use Rattle.replica_model.specs.Layout.{cards, entry_of}
use Rattle.replica_model.specs.Format.{size_of}
use Rattle.replica_model.specs.Calls.{clear_of, with_value_read}
use Rattle.sending.specs.SendLaws.{sends, counter_found, row_found, clear_made, too_short, read_and_clear_refused, read_and_clear_passed}
use Rattle.sending.proofs.clearing.clear.Goals as goal

-- whether there is room for the clear
roomy : (b out : List ℕ) (r q counter : ℕ) (t : Bool) → r ≡ cards b → q ≡ counter → t ≡ leb (clear_length (length (present_entries r (entry_of r b q)))) (length out)
    → leb (size_of (clear_of b counter)) (length out) ≡ t
roomy b out r q counter t first same is = sym (is ∙ rw same (ap (λ (m : Message). leb (size_of m) (length out)) (clear_made b counter r first)))

pub returns-in_err-row : goal.returns-in_err-row
returns-in_err-row c =
    let x = c.in_err-row.field-0.0 in
    let p = err_from_is_err_and c.from_residual.result c.from_residual.ensures.1 in
    rw (p.1, p.2) (read_and_clear_refused _ _ c.args.out.now _ (refusal_some x) (counter_found _ _ true 0 x c.in_err-row.ensures.checked))

pub returns-in_err-check_row : goal.returns-in_err-check_row
returns-in_err-check_row c =
    let x = c.in_err-check_row.field-0.0 in
    let p = err_from_is_err_and c.from_residual-in_err-check_row.result c.from_residual-in_err-check_row.ensures.1 in
    rw (p.1, p.2) (read_and_clear_refused _ _ c.args.out.now _ (refusal_some x) (row_found _ _ true 0 _ _ c.in_ok-row.ensures.row refl _ c.in_err-check_row.ensures))

pub has_room-requires : goal.has_room-requires
has_room-requires c = c.in_ok-row.ensures.row.0

pub returns-then-not-has_room : goal.returns-then-not-has_room
returns-then-not-has_room c =
    let b = c.args.words.now in
    let q = c.args.counter in
    let out = c.args.out.now in
    let row = c.in_ok-row.ensures.row in
    ap (with_value_read b q) (too_short b out (clear_of b q) (leb-false _ _ (roomy b out _ _ q _ row.0.first row.1 c.if-not-has_room.ensures)))
    ∙ read_and_clear_passed b q out (row_found _ _ true 0 _ _ row refl 0 c.in_ok-check_row.ensures)

pub make-requires : goal.make-requires
make-requires c =
    let b = c.args.words.now in
    let q = c.args.counter in
    let row = c.in_ok-row.ensures.row in
    rw row.1 (
      row.0.first,
      (sends b q true 0 (row_found _ _ true 0 _ _ row refl 0 c.in_ok-check_row.ensures)).0,
      leb-true _ _ (roomy b c.args.out.now _ _ q _ row.0.first row.1 c.if-not-has_room.ensures),
    )

pub returns : goal.returns
returns c =
    let b = c.args.words.now in
    let q = c.args.counter in
    let out = c.args.out.now in
    let row = c.in_ok-row.ensures.row in
    (rw row.1 at c.make.ensures)
    ∙ (rw (roomy b out _ _ q _ row.0.first row.1 c.if-not-has_room.ensures) at (read_and_clear_passed b q out (row_found _ _ true 0 _ _ row refl 0 c.in_ok-check_row.ensures)))
