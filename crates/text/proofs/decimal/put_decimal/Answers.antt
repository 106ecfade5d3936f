-- The rule of the table: a test that is computed over it, here and nowhere else.
use Rattle.std.proofs.Common.{refl, rules}
use Rattle.text.specs.Powers.{tens}
use Rattle.text.proofs.decimal.put_decimal.Goals as goal

pub put_by-requires : goal.put_by-requires
unfolding tens
put_by-requires c = ((refl, refl), search rules, search rules)
