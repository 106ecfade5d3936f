-- The invariant: none of the receivers passed is ahead.
use Rattle.std.proofs.Common.{ℕ, ◌<◌, ◌≡◌, true, leb}
use Rattle.lent.specs.Lent.{received}
use Rattle.lent.proofs.Replicas.is_none_ahead.Given as goal

abbrev pub invariant-loop-receiver : goal.invariant-loop-receiver
invariant-loop-receiver l = (i : ℕ) → i < l.receiver → leb (received l.self i l.sender) l.made ≡ true
