-- One card more is counted by its test (`present_counted`).
use Rattle.std.proofs.Common.{arith, refl}
use Rattle.protocol.specs.Entry.{present}
use Rattle.protocol.specs.Chassis.{present_entries}
use Rattle.replica_model.specs.Layout.{entry_of}
use Rattle.replica_model.proofs.PresentLaws.{present_counted, present_few}
use Rattle.layout.specs.WordsLaws.{few_cards}
use Rattle.layout.specs.Totals.{flag_is, flag_small}
use Rattle.sending.proofs.clearing.holders_of.Goals as goal

pub loop-card-init : goal.loop-card-init
unfolding present_entries
loop-card-init c = refl

pub overflow_add-holders : goal.overflow_add-holders
overflow_add-holders c =
    let row = entry_of c.args.row.cards c.args.words.now c.args.row.counter in
    omega (arith, c.from-holders.ensures, flag_small (present c.entry.result), c.loop-card.invariant, present_few row c.loop-card.card, few_cards _ _ _ c.requires)

pub loop-card-preserved : goal.loop-card-preserved
loop-card-preserved c =
    rw (c.from-holders.ensures, flag_is (present c.entry.result), c.loop-card.invariant)
    (present_counted (entry_of c.args.row.cards c.args.words.now c.args.row.counter) c.loop-card.card c.entry.result c.entry.ensures)
