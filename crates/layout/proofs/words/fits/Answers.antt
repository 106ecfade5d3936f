-- Past the test of r and k the length that they ask for fits.
use Rattle.std.proofs.Common.{sym, ◌∙◌}
use Rattle.replica_model.specs.Calls.{replica_fits}
use Rattle.replica_model.proofs.RowLaws.{sizes}
use Rattle.layout.proofs.words.fits.Goals as goal

pub replica_words-requires : goal.replica_words-requires
replica_words-requires c =
    let small = sizes c.args.r c.args.k (sym c.are_sizes_in_range.ensures ∙ c.if-are_sizes_in_range.true) in
    (small.few_cards, small.few_counters)

pub returns-then-are_sizes_in_range : goal.returns-then-are_sizes_in_range
unfolding replica_fits
returns-then-are_sizes_in_range c = rw (c.replica_words.ensures, sym c.are_sizes_in_range.ensures ∙ c.if-are_sizes_in_range.true)

pub returns-else-are_sizes_in_range : goal.returns-else-are_sizes_in_range
unfolding replica_fits
returns-else-are_sizes_in_range c = c.if-are_sizes_in_range.false ∙ rw (sym c.are_sizes_in_range.ensures ∙ c.if-are_sizes_in_range.false)
