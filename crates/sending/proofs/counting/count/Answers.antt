-- A refusal before the message is made is the call's (`counter_found`, `amount_found`, `row_found`, `send_refused`); where there is none (`send_passed`) the room decides.
use Rattle.std.proofs.Common.{sym, ap, ◌∙◌}
use Rattle.std.proofs.lemmas.Result.{err_from_is_err_and}
use Rattle.protocol.specs.declared.Refusal.TheVariants.{BadAmount}
use Rattle.protocol.proofs.RefusalLaws.{refusal_some}
use Rattle.replica_model.specs.Calls.{with_value, count_of, count_on}
use Rattle.replica_model.proofs.CallsLaws.{count_size}
use Rattle.sending.specs.SendLaws.{amount_range, sends, counter_found, amount_found, row_found, send_refused, send_passed, too_short, has_room}
use Rattle.sending.proofs.counting.count.Goals as goal

pub returns-in_err-row : goal.returns-in_err-row
unfolding count_on
returns-in_err-row c =
    let x = c.in_err-row.field-0.0 in
    let p = err_from_is_err_and c.from_residual.result c.from_residual.ensures.1 in
    let m = count_of c.args.words.now c.args.counter c.args.amount in
    rw (p.1, p.2) (ap (with_value 0) (send_refused _ _ _ _ c.args.out.now m _ (refusal_some x) (counter_found _ _ _ c.args.amount x c.in_err-row.ensures.checked)))

pub returns-then-not-is_amount : goal.returns-then-not-is_amount
unfolding count_on
returns-then-not-is_amount c =
    let m = count_of c.args.words.now c.args.counter c.args.amount in
    ap (with_value 0) (send_refused _ _ _ _ c.args.out.now m _ (refusal_some BadAmount) (amount_found _ _ _ c.args.amount _ _ c.in_ok-row.ensures.row (sym c.if-not-is_amount.ensures)))

pub check_row-requires : goal.check_row-requires
check_row-requires c = (c.in_ok-row.ensures.row.0, (amount_range _ (sym c.if-not-is_amount.ensures)).1)

pub returns-in_err-check_row : goal.returns-in_err-check_row
unfolding count_on
returns-in_err-check_row c =
    let x = c.in_err-check_row.field-0.0 in
    let p = err_from_is_err_and c.from_residual-in_err-check_row.result c.from_residual-in_err-check_row.ensures.1 in
    let m = count_of c.args.words.now c.args.counter c.args.amount in
    let found = row_found _ _ _ c.args.amount _ _ c.in_ok-row.ensures.row (sym c.if-not-is_amount.ensures) _ c.in_err-check_row.ensures in
    rw (p.1, p.2) (ap (with_value 0) (send_refused _ _ _ _ c.args.out.now m _ (refusal_some x) found))

pub returns-then-out-lt-INCREMENT_BYTES : goal.returns-then-out-lt-INCREMENT_BYTES
unfolding count_on
returns-then-out-lt-INCREMENT_BYTES c =
    let m = count_of c.args.words.now c.args.counter c.args.amount in
    let none = row_found _ _ _ c.args.amount _ _ c.in_ok-row.ensures.row (sym c.if-not-is_amount.ensures) 0 c.in_ok-check_row.ensures in
    ap (with_value 0) (too_short _ _ m (rw (count_size _ _ _) c.if-out-lt-INCREMENT_BYTES.true) ∙ send_passed _ _ _ _ _ m none)

pub make-sequence-requires : goal.make-sequence-requires
make-sequence-requires c =
    let row = c.in_ok-row.ensures.row in
    let inside = sym c.if-not-is_amount.ensures in
    (row.0.first, rw row.1 (sends _ _ _ _ (row_found _ _ _ c.args.amount _ _ row inside 0 c.in_ok-check_row.ensures)).0, inside, c.if-out-lt-INCREMENT_BYTES.false)

pub returns : goal.returns
unfolding count_on
returns c =
    let row = c.in_ok-row.ensures.row in
    let m = count_of c.args.words.now c.args.counter c.args.amount in
    let none = row_found _ _ _ c.args.amount _ _ row (sym c.if-not-is_amount.ensures) 0 c.in_ok-check_row.ensures in
    ap (with_value 0)
    ((rw row.1 at c.make-sequence.ensures) ∙ has_room c.args.words.now c.args.out.now m (rw (count_size _ _ _) c.if-out-lt-INCREMENT_BYTES.false) ∙ send_passed _ _ _ _ _ m none)
