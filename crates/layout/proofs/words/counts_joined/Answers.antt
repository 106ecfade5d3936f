use Rattle.std.proofs.Common.{◌+◌, ◌-◌, ◌*◌, ◌<◌, drop, refl, ap, arith, add-one, bit_or, length-take, get_or-take, ◌∙◌}
use Rattle.std.proofs.lemmas.List.{get_or-drop}
use Rattle.layout.specs.RowCheck.{joined}
use Rattle.layout.proofs.words.counts_joined.Goals as goal

pub loop-count-init : goal.loop-count-init
unfolding joined
loop-count-init c = refl

pub loop-count-preserved : goal.loop-count-preserved
unfolding joined
loop-count-preserved c =
    let i = c.loop-count.count-index in
    let behind = drop 4 c.args.words.now in
    let inside : i < 4 + 2 * c.args.r - 4 = omega (arith, length-take (4 + 2 * c.args.r - 4) behind) in
    rw (add-one i, ← c.loop-count.invariant) (ap (bit_or c.loop-count.all) (get_or-take (4 + 2 * c.args.r - 4) behind i 0 inside ∙ get_or-drop 4 c.args.words.now i 0))
