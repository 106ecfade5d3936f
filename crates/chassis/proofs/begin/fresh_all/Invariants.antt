-- The invariant: the replicas of the cards passed are fresh, and the words behind them as they were.
use Rattle.std.proofs.Common.{◌*◌, ◌≡◌, ◌++◌, drop}
use Rattle.replica_model.specs.Layout.{replica_length}
use Rattle.chassis_model.specs.Run.{fresh_replicas}
use Rattle.chassis.proofs.begin.fresh_all.Given as goal

abbrev pub invariant-loop-card : goal.invariant-loop-card
invariant-loop-card l = l.words ≡ fresh_replicas l.r l.k l.card ++ drop (l.card * replica_length l.r l.k) l.fn.words
