-- By the one check.
use Rattle.std.proofs.Common.{sym, ◌∙◌}
use Rattle.replica_model.specs.Calls.{open_on}
use Rattle.layout.specs.WordsLaws.{fits_long}
use Rattle.replica.proofs.open.open.Goals as goal

pub returns-then-not-fits : goal.returns-then-not-fits
unfolding open_on
returns-then-not-fits c = rw (sym c.fits.ensures ∙ c.if-not-fits.true)

pub write_fresh-requires : goal.write_fresh-requires
write_fresh-requires c = fits_long _ _ _ _ (sym c.fits.ensures ∙ c.if-not-fits.false)

pub returns : goal.returns
unfolding open_on
returns c = rw (sym c.fits.ensures ∙ c.if-not-fits.false, c.write_fresh.ensures)
