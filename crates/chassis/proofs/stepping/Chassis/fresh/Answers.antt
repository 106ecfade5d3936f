-- A run begins with fresh replicas (`fresh_ready`).
use Rattle.chassis.specs.StepCodeLaws.{fresh_ready}
use Rattle.chassis.proofs.stepping.Chassis.fresh.Goals as goal

pub invariant_of-result : goal.invariant_of-result
invariant_of-result c = record { ready = ∣ rw c.fresh_all.ensures (fresh_ready c.args.sizes c.args.words.now c.args.logs.now c.requires) ∣₁ }
