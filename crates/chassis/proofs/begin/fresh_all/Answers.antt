-- One card more is fresh (`fresh_next`).
use Rattle.std.proofs.Common.{◌∙◌}
use Rattle.std.proofs.Math.Nat.{zero-mul}
use Rattle.replica_model.specs.Layout.{replica_length}
use Rattle.chassis_model.specs.Run.{fresh_replicas}
use Rattle.chassis.specs.BeginLaws.{fresh_next}
use Rattle.chassis.proofs.begin.fresh_all.Goals as goal

pub loop-card-init : goal.loop-card-init
unfolding fresh_replicas
loop-card-init c = rw (zero-mul (replica_length c.args.r c.args.k))

pub loop-card-preserved : goal.loop-card-preserved
loop-card-preserved c = c.fresh_card.ensures ∙ rw c.loop-card.invariant (fresh_next c.args.r c.args.k c.loop-card.card c.args.words.now)
