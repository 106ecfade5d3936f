-- Once r and k are in range, a replica has at most as many words as one of most_cards and most_counters, and most_cards of them fit a word many times.
use Rattle.std.proofs.Common.{◌≤◌, sym, arith, eq-eqb, ne_eqb}
use Rattle.std.proofs.Math.Nat.{mul-le-mul}
use Rattle.protocol.specs.Limits.{most_cards, most_counters}
use Rattle.replica_model.specs.Layout.{replica_length}
use Rattle.replica_model.proofs.RowLaws.{sizes}
use Rattle.chassis_model.specs.Run.{chassis_fits}
use Rattle.chassis.proofs.begin.is_chassis.Goals as goal

pub replica_words-requires : goal.replica_words-requires
replica_words-requires c =
    let facts = sizes c.args.r c.args.k (sym c.if-not-are_sizes_in_range.ensures) in (facts.few_cards, facts.few_counters)

pub overflow_mul-needed : goal.overflow_mul-needed
overflow_mul-needed c =
    let facts = sizes c.args.r c.args.k (sym c.if-not-are_sizes_in_range.ensures) in
    let product = mul-le-mul facts.few_cards facts.few_counters in
    let long : c.replica_words.result ≤ replica_length most_cards most_counters = omega (arith, c.replica_words.ensures, product) in
    omega (arith, mul-le-mul facts.few_cards long)

pub is_product-requires : goal.is_product-requires
is_product-requires c = (sizes c.args.r c.args.k (sym c.if-not-are_sizes_in_range.ensures)).some_cards

pub returns-then-not-are_sizes_in_range : goal.returns-then-not-are_sizes_in_range
unfolding chassis_fits
returns-then-not-are_sizes_in_range c = rw (← c.if-not-are_sizes_in_range.ensures)

pub returns-then-words-needed : goal.returns-then-words-needed
unfolding chassis_fits
returns-then-words-needed c =
    rw (← c.if-not-are_sizes_in_range.ensures, ← c.replica_words.ensures, c.is_product.ensures, eq-eqb _ _ c.if-words-needed.true)

pub returns-else-words-needed : goal.returns-else-words-needed
unfolding chassis_fits
returns-else-words-needed c =
    rw (← c.if-not-are_sizes_in_range.ensures, ← c.replica_words.ensures, ne_eqb _ _ c.if-words-needed.false)
