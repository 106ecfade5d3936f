-- One step more is done (`bytes_next`), and at the end all are (`bytes_done`).
use Rattle.std.proofs.Common.{refl, sym}
use Rattle.chassis.specs.InRun.{state_in, kept_after}
use Rattle.chassis.proofs.RunningLaws.{bytes_begin, bytes_next, bytes_done}
use Rattle.chassis.proofs.run.run_steps.Goals as goal

pub loop-i-init : goal.loop-i-init
loop-i-init c =
    let sizes = c.args.chassis.now.sizes in (
      record { sizes = refl; words = refl; logs = refl },
      bytes_begin sizes.cards sizes.counters sizes.log_bytes c.args.bytes.now c.args.count (state_in c.args.chassis.now) c.args.answers.now c.requires.0 c.requires.1,
    )

pub loop-i-preserved : goal.loop-i-preserved
loop-i-preserved c =
    let sizes = c.args.chassis.now.sizes in
    let done = rw c.loop-i.invariant.0.sizes at c.answer_step.ensures.done in
    let more = bytes_next sizes.cards sizes.counters sizes.log_bytes c.args.bytes.now c.args.count (state_in c.args.chassis.now)
    c.step_from-s.result (state_in c.loop-i.chassis) _ c.loop-i.i c.loop-i.answers c.loop-i-test.true c.step_from-s.ensures
    done.state_is c.loop-i.invariant.1 in
    (kept_after c.loop-i.invariant.0 c.answer_step.ensures.kept, rw done.answers_are more)

pub returns-clause-done : goal.returns-clause-done
returns-clause-done c =
    let sizes = c.args.chassis.now.sizes in
    let all = bytes_done sizes.cards sizes.counters sizes.log_bytes c.args.bytes.now c.args.count (state_in c.args.chassis.now)
    (state_in c.loop-i.chassis) c.loop-i.i c.loop-i.answers c.loop-i-test.false c.loop-i.invariant.1 in
    record { state_is = sym all.0; answers_are = sym all.1 }
