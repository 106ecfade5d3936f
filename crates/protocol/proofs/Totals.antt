-- LAWS. Sums of numbers, masks that are 0 and that are not, and lists that are tested and summed up.
use Rattle.std.specs.Prelude.{ℕ, zero, suc, ◌+◌, ◌^◌, ◌≤◌, ◌<◌, ◌≡◌, refl, ◌↔◌, Bool, true, false, cond, List, [], ◌∷◌, eqb, ltb}
use Rattle.std.proofs.Common.{sym, ap, ◌∙◌, pow-suc, arith, lit<, lt-ltb, le-ltb, eq-eqb, ne_eqb}
use Rattle.protocol.proofs.Cases.{by_test, by_le, by_place, and_left, and_right}
use Rattle.protocol.proofs.Tables.{put, put_same, put_other, sum, bits, sum_cong, sum_plus, sum_zero, sum_one}
use Rattle.protocol.specs.Names.{Name, has}
use Rattle.protocol.proofs.Joins.{has_none, first_or_rest}
use Rattle.protocol.specs.History.{some_of, all_of, total}

-- ---- sums

pub sum_at_least : (n : ℕ) (f : ℕ → ℕ) (k : ℕ) → k < n → f k ≤ sum n f
unfolding sum
sum_at_least zero f k l = absurd (omega arith)
sum_at_least (suc n) f k l =
    by_place k n
    (λ e. let q = ap f e in omega arith)
    (λ d. let q = sum_at_least n f k (omega arith) in omega arith)

pub sum_some {ℓ} : {P : Type ℓ} (n : ℕ) (f : ℕ → ℕ) → 0 < sum n f → ((k : ℕ) → k < n → 0 < f k → P) → P
unfolding sum
sum_some zero f l h = absurd (omega arith)
sum_some (suc n) f l h =
    by_le (f n) 0
    (λ z. sum_some n f (omega arith) (λ k m. h k (omega arith)))
    (λ z. h n (omega arith) z)

pub sum_grows : (f : ℕ → ℕ) (m n : ℕ) → m ≤ n → sum m f ≤ sum n f
unfolding sum
sum_grows f m zero l = let e : m ≡ 0 = omega arith in rw e (omega arith)
sum_grows f m (suc n) l =
    by_le m n
    (λ k. let q = sum_grows f m n k in omega arith)
    (λ k. let e : m ≡ suc n = omega arith in rw e (omega arith))

pub sum_none : (f : ℕ → ℕ) → sum 0 f ≡ 0
unfolding sum
sum_none f = refl

pub sum_ones : (n : ℕ) → sum n (λ k. 1) ≡ n
unfolding sum
sum_ones zero = refl
sum_ones (suc n) = let q = sum_ones n in omega arith

pub sum_suc : (n : ℕ) (f : ℕ → ℕ) → sum (suc n) f ≡ sum n f + f n
unfolding sum
sum_suc n f = refl

-- one more place of one card
pub sum_next : (r : ℕ) (N : ℕ → ℕ) (g : ℕ → ℕ → ℕ) (s : ℕ) → s < r
    → g s (N s) + sum r (λ j. sum (N j) (g j)) ≡ sum r (λ j. sum (put s (suc (N s)) N j) (g j))
sum_next r N g s l =
    let one : sum r (λ j. cond (eqb j s) (g s (N s)) 0) ≡ g s (N s)
    = sum_one r (λ j. cond (eqb j s) (g s (N s)) 0) s l (λ j d. rw (ne_eqb j s d)) ∙ rw (eq-eqb s s refl) in
    let both = sum_plus r (λ j. sum (N j) (g j)) (λ j. cond (eqb j s) (g s (N s)) 0) in
    let each : sum r (λ j. sum (put s (suc (N s)) N j) (g j)) ≡ sum r (λ j. sum (N j) (g j) + cond (eqb j s) (g s (N s)) 0)
    = sum_cong r _ _ (λ j m. by_place j s
    (λ e. rw (e, put_same s (suc (N s)) N, eq-eqb s s refl) (sum_suc (N s) (g s)))
    (λ d. rw (put_other s (suc (N s)) N j d, ne_eqb j s d) (omega arith))) in
    omega arith

-- ---- masks

some_power : (j : ℕ) → 0 < 2 ^ j
some_power zero = lit< tt
some_power (suc j) = omega (arith, pow-suc 2 j, some_power j)

-- a mask is 0 exactly if no bit is one
pub bits_zero : (n : ℕ) (f : ℕ → Bool) → (bits n f ≡ 0) ↔ ((j : ℕ) → j < n → f j ≡ false)
unfolding bits
bits_zero n f = (
  λ none j l.
      by_test (f j)
      (λ e.
      let part : 2 ^ j ≤ bits n f = rw e at (sum_at_least n (λ j. cond (f j) (2 ^ j) 0) j l) in
      absurd (omega (arith, some_power j)))
      (λ e. e),
  λ none. sum_zero n (λ j. cond (f j) (2 ^ j) 0) (λ j l. rw (none j l)),
)

-- one that is not 0 has such a bit
pub bits_some {ℓ} : {P : Type ℓ} (n : ℕ) (f : ℕ → Bool) → (bits n f ≡ 0 → ⊥) → ((j : ℕ) → j < n → f j ≡ true → P) → P
unfolding bits
bits_some n f some here =
    sum_some n (λ j. cond (f j) (2 ^ j) 0) (omega arith)
    (λ j l h. by_test (f j) (here j l) (λ e. absurd (let z : cond (f j) (2 ^ j) 0 ≡ 0 = rw e in omega arith)))

-- ---- lists that are tested

pub all_has : (p : Name → Bool) (s : List Name) (n : Name) → all_of p s ≡ true → has s n ≡ true → p n ≡ true
unfolding all_of
all_has p [] n a h = has_none n h
all_has p (m ∷ s) n a h =
    first_or_rest m s n h (λ e. rw (← e) (and_left (p m) _ a)) (λ g. all_has p s n (and_right (p m) (all_of p s) a) g)

pub some_total {ℓ} : {A : Type ℓ} (p : A → Bool) (s : List A) → some_of p s ≡ ltb 0 (total (λ a. cond (p a) 1 0) s)
unfolding some_of total
some_total p [] = sym (le-ltb 0 0 (omega arith))
some_total p (a ∷ s) =
    by_test (p a)
    (λ e. rw (e, lt-ltb 0 (1 + total (λ a. cond (p a) 1 0) s) (omega arith)))
    (λ e.
    let z : total (λ a. cond (p a) 1 0) s ≡ 0 + total (λ a. cond (p a) 1 0) s = omega arith in
    rw e (some_total p s ∙ ap (ltb 0) z))

pub all_total {ℓ} : {A : Type ℓ} (p : A → Bool) (s : List A) → all_of p s ≡ true → total (λ a. cond (p a) 0 1) s ≡ 0
unfolding all_of total
all_total p [] h = refl
all_total p (a ∷ s) h =
    rw (and_left (p a) (all_of p s) h) (let q = all_total p s (and_right (p a) (all_of p s) h) in omega arith)
