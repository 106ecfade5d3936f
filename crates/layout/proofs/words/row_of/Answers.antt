-- Past the first test the words have a head.
use Rattle.std.proofs.Common.{sym, refl}
use Rattle.replica_model.proofs.RowLaws.{right_facts}
use Rattle.layout.specs.WordsLaws.{head_inside}
use Rattle.layout.proofs.words.row_of.Goals as goal

pub counters_of-requires : goal.counters_of-requires
counters_of-requires c = head_inside _ (right_facts _ (sym c.if-not-is_right.ensures))

pub cards_of-requires : goal.cards_of-requires
cards_of-requires c = head_inside _ (right_facts _ (sym c.if-not-is_right.ensures))

pub returns-clause-row : goal.returns-clause-row
returns-clause-row c = (
  record {
    right = right_facts _ (sym c.if-not-is_right.ensures);
    first = c.cards_of.ensures;
    counter = rw c.counters_of.ensures at c.if-counters_of-counter.false;
  },
  refl,
)
