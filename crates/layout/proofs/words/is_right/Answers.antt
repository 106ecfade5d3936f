-- Words too few for a head are no replica; else the head says what is asked, and the word of bits.
use Rattle.std.proofs.Common.{sym, ◌∙◌, arith, leb-true}
use Rattle.layout.specs.WordsLaws.{short_wrong, fits_wrong, fits_counters, right_by_bits}
use Rattle.layout.proofs.words.is_right.Goals as goal
use Rattle.layout.proofs.words.is_right.Goals.{then-words-ge-HEAD, else-words-ge-HEAD}

pub is_low-requires : goal.is_low-requires
is_low-requires c = elim c.if-words-ge-HEAD.branch [
  | then-words-ge-HEAD w ↦ fits_counters _ _ _ _ (sym w.fits.ensures ∙ sym w.value-is ∙ c.if-fits.true)
  | else-words-ge-HEAD w ↦ let long = leb-true _ _ (sym w.value-is ∙ c.if-fits.true) in absurd (omega arith)
]

pub returns-then-fits : goal.returns-then-fits
returns-then-fits c = elim c.if-words-ge-HEAD.branch [
  | then-words-ge-HEAD w ↦ c.is_low.ensures ∙ right_by_bits _ (sym w.fits.ensures ∙ sym w.value-is ∙ c.if-fits.true)
  | else-words-ge-HEAD w ↦ let long = leb-true _ _ (sym w.value-is ∙ c.if-fits.true) in absurd (omega arith)
]

pub returns-else-fits : goal.returns-else-fits
returns-else-fits c = elim c.if-words-ge-HEAD.branch [
  | then-words-ge-HEAD w ↦ c.if-fits.false ∙ fits_wrong _ (sym w.fits.ensures ∙ sym w.value-is ∙ c.if-fits.false)
  | else-words-ge-HEAD w ↦ c.if-fits.false ∙ short_wrong _ w.if-words-ge-HEAD.false
]
