-- The part lent is the rest of the log, and nothing follows it: so what is put back is the log's front and what the call left.
use Rattle.std.specs.Result.{MatchResult, IsErrAnd}
use Rattle.std.proofs.Common.{Result, ◌-◌, ◌≤◌, ◌≡◌, ap, [], ◌++◌, cond, eqb, arith, length, take, drop, length-drop, take_all}
use Rattle.std.proofs.lemmas.List.{append-nil}
use Rattle.std.proofs.lemmas.Result.{err_from_is_err_and}
use Rattle.std.proofs.Math.ListN.{drop_of_length-le}
use Rattle.protocol.specs.Limits.{short_output, log_full}
use Rattle.protocol.specs.Refusals.{number_of}
use Rattle.protocol.specs.declared.Refusal.{Refusal}
use Rattle.replica_model.specs.declared.Made.{Made}
use Rattle.replica_model.specs.Told.{cleared_answer}
use Rattle.replica_model.specs.Calls.{ClearedOutcome}
use Rattle.chassis.specs.StepCodeLaws.{in_step, appended}
use Rattle.chassis.proofs.stepping.append.Goals as goal

-- what is made stays, and a refusal becomes the step's
step_answers : (sent stepped : Result Made Refusal)
    → MatchResult sent (λ made. stepped ≡ Result.Ok made) (λ e. IsErrAnd stepped (λ f. number_of f ≡ cond (eqb (number_of e) short_output) log_full (number_of e)))
    → cleared_answer stepped ≡ in_step (cleared_answer sent)
step_answers (Result.Ok made) stepped is = rw is
step_answers (Result.Err e) stepped is = let p = err_from_is_err_and stepped is in rw (p.1, p.2)

pub returns : goal.returns
unfolding appended
returns c =
    let log = c.args.log.now in
    let rest = drop c.args.at log in
    let cut = length-drop c.args.at log in
    let all : length rest ≤ length log - c.args.at = omega arith in
    let whole : take (length log - c.args.at) rest ≡ rest = take_all (length log - c.args.at) rest all in
    let none : drop (length log - c.args.at) rest ≡ [] = drop_of_length-le rest all in
    let done = rw whole at c.send.ensures in
    rw (none, append-nil c.send.new.out, step_answers c.send.result c.map_err.result c.map_err.ensures.cases)
    (ap (λ (o : ClearedOutcome). record { answer = in_step o.answer; words = o.words; out = take c.args.at log ++ o.out }) done)
