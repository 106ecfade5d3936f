-- The call is the one of the making that the arm names; a clear is a read and clear without the value read (`no_value`).
use Rattle.std.proofs.Common.{ap}
use Rattle.std.proofs.lemmas.Result.{err_from_is_err_and}
use Rattle.replica_model.specs.Calls.{ClearedOutcome, read_and_clear_on}
use Rattle.chassis_model.specs.Run.{call_of}
use Rattle.chassis.proofs.stepping.send.Goals as goal

without_value : ClearedOutcome → ClearedOutcome
without_value done = record {
  answer = record { number = done.answer.number; value = 0; sequence = done.answer.sequence; length = done.answer.length };
  words = done.words;
  out = done.out;
}

pub returns-in-Count : goal.returns-in-Count
unfolding call_of
returns-in-Count c = rw (c.in-Count.is, ← c.from.ensures) c.count.ensures

pub returns-in_ok-made-in-Clear : goal.returns-in_ok-made-in-Clear
unfolding call_of read_and_clear_on without_value
returns-in_ok-made-in-Clear c = rw c.in-Clear.is (ap without_value c.in_ok-made-in-Clear.ensures)

pub returns-in_err-made-in-Clear : goal.returns-in_err-made-in-Clear
unfolding call_of read_and_clear_on without_value
returns-in_err-made-in-Clear c =
    let p = err_from_is_err_and c.from_residual.result c.from_residual.ensures.1 in
    rw (p.1, p.2, c.in-Clear.is) (ap without_value c.in_err-made-in-Clear.ensures)

pub returns-in-ReadAndClear : goal.returns-in-ReadAndClear
unfolding call_of
returns-in-ReadAndClear c = rw c.in-ReadAndClear.is c.clear-in-ReadAndClear.ensures
