-- The closure says of each counter whether its row is well-formed.
use Rattle.std.proofs.Common.{◌≡◌, ℕ, ◌<◌, Bool, true, false, length, get_or, refl, sym, ◌∙◌, arith, rules}
use Rattle.std.proofs.lemmas.Bool.{false≢true}
use Rattle.std.proofs.lemmas.Iterator.{YieldsList-from_range, cases_from_all}
use Rattle.std.proofs.lemmas.List.FromFn.{length-range_with_len, get_or-range_with_len}
use Rattle.std.specs.Bool.{MatchBool}
use Rattle.std.specs.List.{AllWithin, HoldsAt, range_with_len}
use borrow.Author.Tests.{tests}
use Rattle.protocol.proofs.Cases.{not_yes}
use Rattle.protocol.specs.Functions.{all_below}
use Rattle.protocol.proofs.AcceptanceLaws.{below_facts, below_from}
use Rattle.replica_model.specs.Calls.{row_well_formed}
use Rattle.layout.proofs.words.are_rows_well_formed.Goals as goal

decided : (r : Bool) (n : ℕ) (f : ℕ → Bool)
    → MatchBool r (AllWithin (λ q. f q ≡ true) (range_with_len 0 n) 0 (length (range_with_len 0 n))) ((q : ℕ) × (q < length (range_with_len 0 n)) × HoldsAt (λ q. f q ≡ false) (range_with_len 0 n) q)
    → r ≡ all_below n f
decided true n f each =
    sym (below_from n f (λ q l.
    let here : get_or (range_with_len 0 n) q 0 ≡ q = omega (arith, get_or-range_with_len 0 n q 0 l) in
    rw here at (each q 0 (omega arith) (omega (arith, length-range_with_len 0 n)))))
decided false n f (q, inside, not) =
    let l : q < n = omega (arith, length-range_with_len 0 n) in
    let here : get_or (range_with_len 0 n) q 0 ≡ q = omega (arith, get_or-range_with_len 0 n q 0 l) in
    sym (not_yes _ (λ all. false≢true (sym (rw here at (not 0)) ∙ below_facts n f all q l)))

pub returns : goal.returns
returns c =
    let row = row_well_formed c.args.words.now in
    rw (← c.counters_of-counters.ensures)
    (decided c.all.result c.counters_of-counters.result row
    (cases_from_all _ _ _ (λ q. row q ≡ true) (λ q. row q ≡ false) c.all.ensures.ran
    (YieldsList-from_range 0 c.counters_of-counters.result c.counters_of-counters.result refl (omega arith)) (λ q f h. search (rules, tests)) (λ q f h. search (rules, tests))))
