-- At most one bit is left behind the first k - 1.
use Rattle.protocol.proofs.BitLaws.{below_power}
use Rattle.layout.proofs.words.is_low.Goals as goal

pub returns : goal.returns
returns c = below_power c.args.active c.args.k c.requires.0
