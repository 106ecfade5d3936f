-- What each of the two has had stands in its replica.
use Rattle.std.proofs.Common.{[]}
use Rattle.pending.proofs.rounds.Pump.does_one_wait.Goals as goal

pub returns : goal.returns
returns c = rw (c.received-had.ensures [], c.received-made.ensures [])
