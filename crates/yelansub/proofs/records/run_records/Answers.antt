-- The ends of a run of records, each by its law of specs/RecordsLaws; a record more is taken by `record_next`.
use Rattle.std.proofs.Common.{◌∙◌, refl, arith, rules}
use Rattle.protocol.specs.Limits.{bad_sizes}
use Rattle.protocol.specs.Refusals.{number_in}
use Rattle.std.specs.Prelude.{◌≡◌}
use Rattle.chassis_model.specs.Run.{fresh_replicas}
use Rattle.chassis.specs.StepCodeLaws.{state_of, answers_long}
use Rattle.chassis.specs.InRun.{kept_after}
use Rattle.chassis.proofs.RunningLaws.{running_begins}
use Rattle.yelansub.specs.RecordsLaws.{declined, begun_answers, begun_sizes, finished, record_next}
use Rattle.yelansub.proofs.records.run_records.Goals as goal

pub returns-in_err-sizes : goal.returns-in_err-sizes
returns-in_err-sizes c =
    let (wrong, which) = c.in_err-sizes.ensures in
    let told : number_in c.from_residual.result ≡ bad_sizes = search rules in
    rw told (declined c.args.cards c.args.counters c.args.log_bytes c.args.steps.now c.args.words.now c.args.logs.now c.args.answers.now wrong)

pub fresh-chassis-requires : goal.fresh-chassis-requires
fresh-chassis-requires c =
    let (right, which) = c.in_ok-sizes.ensures in
    rw which (begun_sizes c.args.cards c.args.counters c.args.log_bytes c.args.steps.now c.args.words.now c.args.logs.now c.args.answers.now right)

pub loop-i-init : goal.loop-i-init
loop-i-init c =
    let (right, which) = c.in_ok-sizes.ensures in
    let begun = rw which at c.fresh-chassis.ensures.begun in (
      record { sizes = refl; words = refl; logs = refl },
      begun.sizes_are,
      rw begun.state_is
          (running_begins c.args.cards c.args.counters c.args.log_bytes c.args.steps.now (state_of (fresh_replicas c.args.cards c.args.counters c.args.cards) c.args.logs.now) c.args.answers.now
          (begun_answers c.args.cards c.args.counters c.args.log_bytes c.args.steps.now c.args.words.now c.args.logs.now c.args.answers.now right)),
      refl,
    )

pub loop-i-preserved : goal.loop-i-preserved
loop-i-preserved c =
    let did = rw c.loop-i.invariant.1 at c.answer_step.ensures.done in (
      kept_after c.loop-i.invariant.0 c.answer_step.ensures.kept,
      c.answer_step.ensures.kept.sizes ∙ c.loop-i.invariant.1,
      record_next _ _ _ _ _ _ _ _ _ _ _ c.loop-i-test.true did c.loop-i.invariant.2,
      answers_long did ∙ c.loop-i.invariant.3,
    )

pub returns : goal.returns
returns c =
    let (right, which) = c.in_ok-sizes.ensures in
    let done =
    finished c.args.cards c.args.counters c.args.log_bytes c.args.steps.now c.args.words.now c.args.logs.now c.args.answers.now right
    c.loop-i.i _ _ c.loop-i.answers (omega arith) c.loop-i.invariant.2 in
    search (rules, done)
