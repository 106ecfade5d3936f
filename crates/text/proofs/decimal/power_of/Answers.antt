-- What the table's rule says of an entry.
use Rattle.text.specs.Powers.{power_at}
use Rattle.text.proofs.decimal.power_of.Goals as goal

pub returns : goal.returns
returns c = power_at c.args.powers.now c.args.n c.requires.0 c.requires.1
