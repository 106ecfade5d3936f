-- A replica is long enough for its head (`replica_long`).
use Rattle.std.proofs.Common.{arith}
use Rattle.lent.specs.ChecksLaws.{replica_long}
use Rattle.lent.proofs.Replicas.is_card_in_place.Goals as goal

pub is_in_place-requires : goal.is_in_place-requires
is_in_place-requires c =
    (rw c.replica.ensures (omega (arith, replica_long c.args.self.now c.args.card c.requires.1)), c.requires.0, c.args.self.now.fit.few_counters)
