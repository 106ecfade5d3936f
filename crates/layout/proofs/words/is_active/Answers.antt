-- Shifted to the front, the bit is the lowest.
use Rattle.std.proofs.Common.{ℕ, ◌/◌, ◌^◌, nat_eq, ap}
use Rattle.std.proofs.lemmas.Nat.{and_mask}
use Rattle.protocol.specs.Functions.{bit}
use Rattle.replica_model.specs.Layout.{active_word}
use Rattle.layout.proofs.words.is_active.Goals as goal

pub returns : goal.returns
unfolding bit
returns c = ap (λ (y : ℕ). nat_eq y 1) (and_mask (active_word c.args.words.now / 2 ^ c.args.q) 1)
