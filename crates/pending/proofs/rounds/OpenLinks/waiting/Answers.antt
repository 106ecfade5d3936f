-- One receiver more (`listed_next`).
use Rattle.std.proofs.Common.{refl}
use Rattle.pending.specs.RoundsLaws.{listed_none, listed_next}
use Rattle.pending.proofs.rounds.OpenLinks.waiting.Goals as goal

pub loop-receiver-init : goal.loop-receiver-init
loop-receiver-init c = listed_none _ _ _ refl

pub loop-receiver-preserved : goal.loop-receiver-preserved
loop-receiver-preserved c = listed_next _ _ _ _ _ c.loop-receiver.invariant c.push_waiting.ensures
