-- One receiver more that is not ahead, or one that is (`below_fails`).
use Rattle.std.proofs.Common.{sym, arith, le-leb}
use Rattle.std.proofs.lemmas.Bool.{lt-leb}
use Rattle.protocol.proofs.Cases.{by_place}
use Rattle.protocol.proofs.AcceptanceLaws.{below_from}
use Rattle.lent.specs.Each.{below_fails}
use Rattle.lent.proofs.Replicas.is_none_ahead.Goals as goal

pub returns-then-made-received : goal.returns-then-made-received
returns-then-made-received c =
    sym (below_fails c.args.self.now.sizes.cards _ c.loop-receiver.receiver c.loop-receiver-test.true (lt-leb _ _ (rw c.received.ensures at c.if-made-received.true)))

pub loop-receiver-preserved : goal.loop-receiver-preserved
loop-receiver-preserved c = λ i l.
    by_place i c.loop-receiver.receiver
    (λ e. rw e (le-leb _ _ (rw c.received.ensures at c.if-made-received.false)))
    (λ d. c.loop-receiver.invariant i (omega arith))

pub returns : goal.returns
returns c = sym (below_from c.args.self.now.sizes.cards _ (λ i l. c.loop-receiver.invariant i (omega arith)))
