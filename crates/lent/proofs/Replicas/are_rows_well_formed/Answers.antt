-- One test for each card (`each_below`).
use Rattle.std.proofs.Common.{ℕ, Bool, ◌≡◌, refl, true, false, rules, arith}
use Rattle.std.proofs.lemmas.Iterator.{YieldsList-from_range, cases_from_all}
use borrow.Author.Tests.{tests}
use Rattle.protocol.specs.Functions.{all_below}
use Rattle.replica_model.specs.Calls.{row_well_formed}
use Rattle.lent.specs.Lent.{are_formed, lent_replica}
use Rattle.lent.specs.Each.{each_below}
use Rattle.lent.proofs.Replicas.are_rows_well_formed.Goals as goal

pub returns : goal.returns
unfolding are_formed
returns c =
    let test : ℕ → Bool = λ i. all_below c.args.self.now.sizes.counters (row_well_formed (lent_replica c.args.self.now i)) in
    each_below c.all.result c.args.self.now.sizes.cards test
    (cases_from_all _ _ _ (λ i. test i ≡ true) (λ i. test i ≡ false) c.all.ensures.ran
    (YieldsList-from_range 0 c.args.self.now.sizes.cards c.args.self.now.sizes.cards refl (omega arith)) (λ i f h. search (rules, tests)) (λ i f h. search (rules, tests)))
