-- One line more in each turn.
use Rattle.std.proofs.Common.{refl, rules}
use Rattle.text.proofs.PutLaws.{put_none, put_turn}
use Rattle.listing.specs.Listing.{card_lines}
use Rattle.listing.proofs.lines.put_card.Goals as goal

pub loop-counter-init : goal.loop-counter-init
unfolding card_lines
loop-counter-init c = ((refl, refl), put_none _ _)

pub loop-counter-preserved : goal.loop-counter-preserved
unfolding card_lines
loop-counter-preserved c =
    (search rules, put_turn (card_lines c.args.card c.args.b.now) refl c.loop-counter.invariant.1 c.put_counter.ensures.put)
