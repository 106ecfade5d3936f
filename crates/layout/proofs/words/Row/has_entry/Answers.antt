use Rattle.std.proofs.Common.{◌≡◌, refl, arith, add-one}
use Rattle.layout.specs.RowCheck.{p_joined, p_joined_some}
use Rattle.layout.proofs.words.Row.has_entry.Goals as goal

pub loop-card-init : goal.loop-card-init
unfolding p_joined
loop-card-init c = refl

pub loop-card-preserved : goal.loop-card-preserved
unfolding p_joined
loop-card-preserved c = rw (add-one c.loop-card.card, c.loop-card.invariant, c.entry-all.ensures)

pub returns : goal.returns
returns c =
    let all : c.loop-card.card ≡ c.args.self.cards = omega arith in
    rw (c.loop-card.invariant, all) (p_joined_some c.args.self.cards c.args.words.now c.args.self.counter)
