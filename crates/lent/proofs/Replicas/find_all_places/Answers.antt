-- The sender's part of the logs is its log; what is answered at one that is not right (`found_wrong`), and at the end (`found_all`).
use Rattle.chassis.proofs.PartLaws.{part_read}
use Rattle.lent.specs.PlacesLaws.{found_wrong, found_next, found_all}
use Rattle.lent.proofs.Replicas.find_all_places.Goals as goal

pub returns-then-not-find_places : goal.returns-then-not-find_places
returns-then-not-find_places c =
    let log = part_read c.args.self.now.sizes.log_bytes c.loop-sender.sender c.args.logs.now _ _ c.log.ensures.0 c.log.ensures.1 in
    found_wrong _ _ _ _ _ c.loop-sender-test.true (rw log at c.if-not-find_places.ensures)

pub loop-sender-preserved : goal.loop-sender-preserved
loop-sender-preserved c =
    let log = part_read c.args.self.now.sizes.log_bytes c.loop-sender.sender c.args.logs.now _ _ c.log.ensures.0 c.log.ensures.1 in
    found_next _ _ _ _ _ c.loop-sender-test.true (rw log at c.if-not-find_places.ensures) c.loop-sender.invariant

pub returns : goal.returns
returns c = found_all _ _ _ c.loop-sender-test.false _ c.loop-sender.invariant
