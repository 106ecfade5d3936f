-- The three ends of a run, each by its law of proofs/OutcomeLaws.
use Rattle.std.proofs.Common.{◌≡◌, rules}
use Rattle.protocol.specs.Limits.{bad_sizes}
use Rattle.protocol.specs.Refusals.{number_in}
use Rattle.chassis.proofs.OutcomeLaws.{run_uneven, run_declined, run_sizes, steps_given, run_done}
use Rattle.chassis.proofs.run.run.Goals as goal

pub returns-then-steps-ne0 : goal.returns-then-steps-ne0
returns-then-steps-ne0 c =
    run_uneven c.args.cards c.args.counters c.args.log_bytes c.args.steps.now c.args.words.now c.args.logs.now c.args.answers.now c.if-steps-ne0.true

pub returns-in_err-sizes : goal.returns-in_err-sizes
returns-in_err-sizes c =
    let (wrong, which) = c.in_err-sizes.ensures in
    let told : number_in c.from_residual.result ≡ bad_sizes = search rules in
    rw told
    (run_declined c.args.cards c.args.counters c.args.log_bytes c.args.steps.now c.args.words.now c.args.logs.now c.args.answers.now c.if-steps-ne0.false wrong)

pub fresh-chassis-requires : goal.fresh-chassis-requires
fresh-chassis-requires c =
    let (right, which) = c.in_ok-sizes.ensures in
    rw which
    (run_sizes c.args.cards c.args.counters c.args.log_bytes c.args.steps.now c.args.words.now c.args.logs.now c.args.answers.now c.if-steps-ne0.false right)

pub run_steps-requires : goal.run_steps-requires
run_steps-requires c =
    let (right, which) = c.in_ok-sizes.ensures in
    steps_given c.args.cards c.args.counters c.args.log_bytes c.args.steps.now c.args.words.now c.args.logs.now c.args.answers.now c.if-steps-ne0.false right

pub returns : goal.returns
returns c =
    let (right, which) = c.in_ok-sizes.ensures in
    let begun = rw which at c.fresh-chassis.ensures.begun in
    let done =
    run_done c.args.cards c.args.counters c.args.log_bytes c.args.steps.now c.args.words.now c.args.logs.now c.args.answers.now c.if-steps-ne0.false right _ _ _
    (rw (begun.sizes_are, begun.state_is) at c.run_steps.ensures.done) in
    search (rules, done)
