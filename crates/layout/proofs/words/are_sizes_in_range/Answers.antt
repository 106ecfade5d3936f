-- The tests are those of `sizes_in_range`.
use Rattle.std.proofs.Common.{◌≡◌, ℕ, ◌&&◌, nat_le, sym, arith}
use Rattle.std.proofs.Math.Bool.{and_assoc}
use Rattle.std.proofs.lemmas.Bool.Decides.{nat_tests}
use Rattle.std.specs.Ordering.{is_le, nat_cmp}
use Rattle.replica_model.specs.Calls.{sizes_in_range}
use Rattle.layout.proofs.words.are_sizes_in_range.Goals as goal

le_test : (x y : ℕ) → is_le (nat_cmp x y) ≡ nat_le x y
le_test x y = grind (arith, nat_tests)

pub returns : goal.returns
unfolding sizes_in_range
returns c =
    let r = c.args.r in
    let k = c.args.k in
    rw (c.contains.ensures.value, c.new.ensures.start, c.new.ensures.end, c.new.ensures.exhausted)
    (rw (c.contains-2.ensures.value, c.new-2.ensures.start, c.new-2.ensures.end, c.new-2.ensures.exhausted)
    (rw (le_test 1 r, le_test r 12, le_test 1 k, le_test k 64) (sym (and_assoc (nat_le 1 r && nat_le r 12) (nat_le 1 k) (nat_le k 64)))))
