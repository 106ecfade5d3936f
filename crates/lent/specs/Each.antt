-- LAWS. One test of every number below n: what `all` answers over a range is `all_below`.
use Rattle.std.specs.Prelude.{ℕ, ◌<◌, ◌≡◌, Bool, true, false, length, slice_index_or}
use Rattle.std.proofs.Common.{sym, ◌∙◌, arith}
use Rattle.std.proofs.lemmas.Bool.{false≢true}
use Rattle.std.proofs.lemmas.List.FromFn.{length-range_with_len, get_or-range_with_len}
use Rattle.std.specs.Bool.{MatchBool}
use Rattle.std.specs.List.{AllWithin, HoldsAt, range_with_len}
use Rattle.protocol.proofs.Cases.{not_yes}
use Rattle.protocol.specs.Functions.{all_below}
use Rattle.protocol.proofs.AcceptanceLaws.{below_facts, below_from}

-- one that fails is enough
pub below_fails : (n : ℕ) (f : ℕ → Bool) (j : ℕ) → j < n → f j ≡ false → all_below n f ≡ false
below_fails n f j l e = not_yes (all_below n f) (λ h. false≢true (sym e ∙ below_facts n f h j l))

-- `r` is right: each passes, or some one fails
pub each_below : (r : Bool) (n : ℕ) (f : ℕ → Bool)
    → MatchBool r (AllWithin (λ j. f j ≡ true) (range_with_len 0 n) 0 (length (range_with_len 0 n)))
    ((j : ℕ) × (j < length (range_with_len 0 n)) × HoldsAt (λ j. f j ≡ false) (range_with_len 0 n) j)
    → r ≡ all_below n f
each_below true n f passes =
    sym (below_from n f (λ j l.
    let here : slice_index_or (range_with_len 0 n) j 0 ≡ j = omega (arith, get_or-range_with_len 0 n j 0 l) in
    rw here at (passes j 0 (omega arith) (omega (arith, length-range_with_len 0 n)))))
each_below false n f (j, inside, fails) =
    let l : j < n = omega (arith, length-range_with_len 0 n) in
    let here : slice_index_or (range_with_len 0 n) j 0 ≡ j = omega (arith, get_or-range_with_len 0 n j 0 l) in
    sym (below_fails n f j l (rw here at (fails 0)))
