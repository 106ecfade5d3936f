-- The card's part of the words is the replica.
use Rattle.chassis.proofs.PartLaws.{part_read}
use Rattle.lent.proofs.Replicas.replica.Goals as goal

pub returns : goal.returns
returns c =
    let read = part_read c.args.self.now.sizes.replica_words c.args.card c.args.self.now.words.now _ _ c.replica.ensures.0 c.replica.ensures.1 in
    rw (read, c.args.self.now.fit.replica_is)
