-- What is joined decides, then the own entry, and past these the bit.
use Rattle.std.proofs.Common.{sym, ◌∙◌, arith, leb-true}
use Rattle.layout.specs.RowCheck.{check_too_large, check_ahead, check_ends}
use Rattle.layout.proofs.words.Row.is_rest_well_formed.Goals as goal
use Rattle.layout.proofs.words.Row.is_rest_well_formed.Goals.{then-counts-high-le-MAX, else-counts-high-le-MAX}

pub returns-then-is_own_entry_counted : goal.returns-then-is_own_entry_counted
returns-then-is_own_entry_counted c = elim c.if-counts-high-le-MAX.branch [
  | then-counts-high-le-MAX w ↦ rw c.is_active.ensures (check_ends c.requires.2 c.requires.0.first c.requires.1 w.if-counts-high-le-MAX.true (sym w.is_own_entry_counted.ensures ∙ sym w.value-is ∙ c.if-is_own_entry_counted.true))
  | else-counts-high-le-MAX w ↦ let low = leb-true _ _ (sym w.value-is ∙ c.if-is_own_entry_counted.true) in absurd (omega arith)
]

pub returns-else-is_own_entry_counted : goal.returns-else-is_own_entry_counted
returns-else-is_own_entry_counted c = elim c.if-counts-high-le-MAX.branch [
  | then-counts-high-le-MAX w ↦ c.if-is_own_entry_counted.false ∙ sym (check_ahead c.requires.2 c.requires.0.first c.requires.1 (sym w.is_own_entry_counted.ensures ∙ sym w.value-is ∙ c.if-is_own_entry_counted.false))
  | else-counts-high-le-MAX w ↦ c.if-is_own_entry_counted.false ∙ sym (check_too_large c.requires.2 c.requires.0.first c.requires.1 w.if-counts-high-le-MAX.false)
]
