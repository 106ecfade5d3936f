-- The card's part is as long as a replica, and what is written there is fresh.
use Rattle.std.proofs.Common.{◌*◌}
use Rattle.std.proofs.Math.Nat.{add-sub_cancel_left}
use Rattle.chassis_model.specs.ListParts.{put_part}
use Rattle.chassis.proofs.begin.fresh_card.Goals as goal

pub returns : goal.returns
unfolding put_part
returns c =
    let n = c.replica_words-size.result in
    rw (add-sub_cancel_left (c.args.card * n) n, c.write_fresh.ensures, c.replica_words-size.ensures)
