-- Right sizes are within the limits.
use Rattle.std.proofs.Common.{rules}
use Rattle.chassis.specs.BeginLaws.{right_lengths}
use Rattle.chassis.proofs.run.checked_sizes.Goals as goal

pub new-sizes-requires : goal.new-sizes-requires
new-sizes-requires c =
    let facts = right_lengths c.args.cards c.args.counters c.args.log_bytes c.args.steps c.args.words c.args.logs c.args.answers (search rules) in
    (facts.sized.few_cards, facts.sized.few_counters)
