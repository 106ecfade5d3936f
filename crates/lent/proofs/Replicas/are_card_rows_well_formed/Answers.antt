-- The replica is right, since it is in place (`placed_right`).
use Rattle.lent.specs.ChecksLaws.{placed_right}
use Rattle.lent.proofs.Replicas.are_card_rows_well_formed.Goals as goal

pub are_rows_well_formed-requires : goal.are_rows_well_formed-requires
are_rows_well_formed-requires c = rw c.replica.ensures (placed_right c.args.self.now c.args.card c.requires.2 c.requires.0 c.requires.1).0

pub returns : goal.returns
returns c = rw (c.replica.ensures, (placed_right c.args.self.now c.args.card c.requires.2 c.requires.0 c.requires.1).1) at c.are_rows_well_formed.ensures
