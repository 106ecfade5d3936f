-- The part of the log that is handed to take is the waiting message, since that stands from `at` on (`HandReady`); what take does with it is the delivery
-- (`handed_over`).
use Rattle.chassis.specs.StepCodeLaws.{log_is_long, handed_over}
use Rattle.chassis.proofs.PartLaws.{part_read, part_written}
use Rattle.chassis.proofs.stepping.hand_over.Goals as goal

pub next_message-message-requires : goal.next_message-message-requires
next_message-message-requires c =
    let here = c.requires.stands in
    rw (part_read c.args.sizes.log_bytes c.args.sender c.args.logs.now _ _ c.log.ensures.0 c.log.ensures.1, log_is_long _ _ _ _ _ _ c.requires)
    (here.inside, here.header, here.room)

pub returns : goal.returns
returns c =
    let replica = part_read c.args.sizes.replica_words c.args.receiver c.args.words.now _ _ c.replica.ensures.0 c.replica.ensures.1 in
    let log = part_read c.args.sizes.log_bytes c.args.sender c.args.logs.now _ _ c.log.ensures.0 c.log.ensures.1 in
    rw (part_written c.args.sizes.replica_words c.args.receiver c.args.words.now _ _ c.replica.ensures.0 c.replica.ensures.1 c.take.new.words)
    (handed_over c.args.sizes c.args.receiver c.args.sender c.args.at c.args.words.now c.args.logs.now c.requires _ (rw log at c.next_message-message.ensures.holds)
    c.take.result _ (rw replica at c.take.ensures))
