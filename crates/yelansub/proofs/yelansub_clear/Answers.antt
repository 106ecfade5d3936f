-- The value is left out.
use Rattle.yelansub.specs.ClearLaws.{cleared}
use Rattle.yelansub.proofs.yelansub_clear.Goals as goal

pub returns : goal.returns
returns c = rw c.from.ensures (cleared _ _ _ _ _ _ c.clear.ensures)
