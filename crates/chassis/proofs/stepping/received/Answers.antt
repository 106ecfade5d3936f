-- The card's part is its replica.
use Rattle.chassis.proofs.PartLaws.{part_read}
use Rattle.chassis.proofs.stepping.received.Goals as goal

pub returns : goal.returns
returns c = λ logs.
    let replica = part_read c.args.sizes.replica_words c.args.card c.args.words.now _ _ c.replica.ensures.0 c.replica.ensures.1 in
    rw (← c.requires.0.replica_is) (rw replica at c.messages_at.ensures)
