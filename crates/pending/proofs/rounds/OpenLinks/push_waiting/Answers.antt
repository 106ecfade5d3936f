-- The link from one sender more is pushed if one waits on it (`to_pushed`), else passed (`to_passed`).
use Rattle.std.proofs.Common.{◌<◌, length, sym, arith}
use Rattle.pending.specs.RoundsLaws.{to_none, to_pushed, to_passed}
use Rattle.pending.proofs.rounds.OpenLinks.push_waiting.Goals as goal
use Rattle.pending.proofs.rounds.OpenLinks.push_waiting.Goals.{then-does_one_wait, else-does_one_wait}

pub loop-sender-init : goal.loop-sender-init
loop-sender-init c = to_none _ _ _ _

pub loop-sender-preserved : goal.loop-sender-preserved
loop-sender-preserved c =
    elim c.if-does_one_wait.branch [
      | then-does_one_wait w ↦
          let room : c.loop-sender.self.count < length c.loop-sender.self.numbers = omega arith in
          rw (w.self-is, w.push.ensures, c.link-which.ensures.0)
          (to_pushed _ _ _ _ _ _ c.loop-sender.invariant (omega arith) room (sym w.if-does_one_wait.ensures))
      | else-does_one_wait w ↦ rw w.self-is (to_passed _ _ _ _ _ _ c.loop-sender.invariant (sym w.if-does_one_wait.ensures))
    ]
