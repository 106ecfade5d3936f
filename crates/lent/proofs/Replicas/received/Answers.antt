use Rattle.std.proofs.Common.{[]}
use Rattle.lent.proofs.Replicas.received.Goals as goal

pub returns : goal.returns
returns c = c.received.ensures []
