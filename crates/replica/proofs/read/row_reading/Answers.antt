-- Where the check passes, the row is well-formed, and the sum of a well-formed row fits a word.
use Rattle.std.proofs.Common.{◌≡◌, ◌^◌, sym, ◌∙◌, arith, refl}
use Rattle.protocol.specs.Entry.{present}
use Rattle.protocol.proofs.Tables.{sum, bits}
use Rattle.protocol.specs.Chassis.{read_value, read_holders}
use Rattle.protocol.proofs.StoreLaws.{shown}
use Rattle.replica_model.specs.Layout.{entry_of}
use Rattle.replica_model.specs.Calls.{reading}
use Rattle.replica_model.proofs.RowLaws.{row_facts}
use Rattle.layout.specs.WordsLaws.{few_cards}
use Rattle.layout.specs.RowCheck.{check_begins, check_turn, check_fails}
use Rattle.layout.specs.Totals.{held, flag_is}
use Rattle.replica.specs.Sums.{held_fits, sum_turn_wrapped, bits_turn, ones_bits}
use Rattle.replica.proofs.read.row_reading.Goals as goal

pub loop-card-init : goal.loop-card-init
unfolding sum bits
loop-card-init c = (check_begins, refl, refl)

pub returns-then-not-is_entry_ordered : goal.returns-then-not-is_entry_ordered
returns-then-not-is_entry_ordered c =
    rw (check_fails c.loop-card.invariant.0 c.requires.first c.loop-card-test.true (rw c.entry-e.ensures at (c.is_entry_ordered.ensures.1 c.if-not-is_entry_ordered.true)))

pub loop-card-preserved : goal.loop-card-preserved
loop-card-preserved c =
    let few = few_cards _ _ _ c.requires in
    let row = entry_of c.args.row.cards c.args.words.now c.args.row.counter in
    let e = c.entry-e.ensures in (
      rw e (check_turn c.loop-card.invariant.0 c.loop-card-test.true (rw e at (c.is_entry_ordered.ensures.0 c.if-not-is_entry_ordered.false))),
      rw (c.loop-card.invariant.1, e) (sum_turn_wrapped c.loop-card.card (2 ^ 64) (held row)),
      rw (c.loop-card.invariant.2, c.from.ensures, c.is_present.ensures, e, flag_is (present (row c.loop-card.card))) (bits_turn c.loop-card.card (λ j. present (row j)) (omega (arith, c.loop-card-test.true))),
    )

pub returns : goal.returns
unfolding reading read_value read_holders shown
returns c =
    let all : c.loop-card.card ≡ c.args.row.cards = omega arith in
    let formed = sym c.is_rest_well_formed.ensures ∙ c.if-not-is_rest_well_formed.false in
    rw (formed, c.from-2.ensures, c.from-3.ensures, c.loop-card.invariant.1, c.loop-card.invariant.2, all, c.requires.first, held_fits _ _ (row_facts _ _ formed) c.requires.right.sizes.few_cards, ones_bits)
