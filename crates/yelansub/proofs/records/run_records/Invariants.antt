-- The invariant: the records from the i-th on are left (`Running`).
use Rattle.std.proofs.Common.{◌≡◌, length, drop}
use Rattle.chassis_model.specs.Run.{fresh_replicas}
use Rattle.chassis.specs.SizesOf.{sizes_of}
use Rattle.chassis.specs.StepCodeLaws.{state_of}
use Rattle.chassis.specs.InRun.{state_in, Kept}
use Rattle.chassis.proofs.RunningLaws.{Running}
use Rattle.yelansub.proofs.records.run_records.Given as goal

abbrev pub invariant-loop-i : goal.invariant-loop-i
invariant-loop-i l =
    Kept l.initial.chassis l.chassis
    × (l.chassis.sizes ≡ sizes_of l.cards l.counters l.log_bytes)
    × Running l.cards l.counters l.log_bytes l.steps (state_of (fresh_replicas l.cards l.counters l.cards) l.fn.logs) (drop l.i l.steps) (state_in l.chassis) l.i l.answers
    × (length l.answers ≡ length l.fn.answers)
