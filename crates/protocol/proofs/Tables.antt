-- LAWS. Tables: functions from numbers with one place changed, and sums over the first so-many places (`Functions`).
-- `put` is shut: after `by_place i k`, `simp put_at` and `simp put_other` find the case's fact themselves.
use Rattle.std.specs.Prelude.{ℕ, zero, suc, ◌+◌, ◌<◌, ◌≡◌, refl}
use Rattle.std.proofs.Common.{ap, ap₂, ◌∙◌, arith, eq-eqb, ne_eqb}
use Rattle.protocol.proofs.Cases.{by_place}
unfoldable pub use Rattle.protocol.specs.Functions.{put, sum, bits}

pub put_same {ℓ} : {A : Type ℓ} (k : ℕ) (v : A) (f : ℕ → A) → put k v f k ≡ v
unfolding put
put_same k v f = rw (eq-eqb k k refl)

pub put_other {ℓ} : {A : Type ℓ} (k : ℕ) (v : A) (f : ℕ → A) (i : ℕ) → (i ≡ k → ⊥) → put k v f i ≡ f i
unfolding put
put_other k v f i h = rw (ne_eqb i k h)

pub put_at {ℓ} : {A : Type ℓ} (k : ℕ) (v : A) (f : ℕ → A) (i : ℕ) → i ≡ k → put k v f i ≡ v
put_at k v f i e = ap (put k v f) e ∙ put_same k v f

-- a row of a table of tables, at a place of the row
pub put_same_row {ℓ} : {A : Type ℓ} (k : ℕ) (v : ℕ → A) (f : ℕ → ℕ → A) (j : ℕ) → put k v f k j ≡ v j
put_same_row k v f j = ap (λ g. g j) (put_same k v f)

pub put_other_row {ℓ} : {A : Type ℓ} (k : ℕ) (v : ℕ → A) (f : ℕ → ℕ → A) (i j : ℕ) → (i ≡ k → ⊥) → put k v f i j ≡ f i j
put_other_row k v f i j h = ap (λ g. g j) (put_other k v f i h)

-- what `put` gives, by cases on the place
pub put_cases {ℓ} : {A : Type ℓ} (P : A → Type 0) (k : ℕ) (v : A) (f : ℕ → A) (i : ℕ) → (i ≡ k → P v) → ((i ≡ k → ⊥) → P (f i)) → P (put k v f i)
put_cases P k v f i a b = by_place i k (λ e. rw put_at (a e)) (λ d. rw put_other (b d))

-- a table that is v at k, and f elsewhere
pub put_agrees {ℓ} : {A : Type ℓ} (k : ℕ) (v : A) (f g : ℕ → A) → g k ≡ v → ((i : ℕ) → (i ≡ k → ⊥) → g i ≡ f i) → (i : ℕ) → g i ≡ put k v f i
put_agrees k v f g e h i = by_place i k (λ c. rw put_at (ap g c ∙ e)) (λ d. rw put_other (h i d))

pub sum_cong : (n : ℕ) (f g : ℕ → ℕ) → ((j : ℕ) → j < n → f j ≡ g j) → sum n f ≡ sum n g
unfolding sum
sum_cong zero f g h = refl
sum_cong (suc n) f g h = ap₂ ◌+◌ (sum_cong n f g (λ j q. h j (omega arith))) (h n (omega arith))

pub sum_plus : (n : ℕ) (f g : ℕ → ℕ) → sum n (λ j. f j + g j) ≡ sum n f + sum n g
unfolding sum
sum_plus zero f g = refl
sum_plus (suc n) f g = let q = sum_plus n f g in omega arith

pub sum_zero : (n : ℕ) (f : ℕ → ℕ) → ((j : ℕ) → j < n → f j ≡ 0) → sum n f ≡ 0
unfolding sum
sum_zero zero f h = refl
sum_zero (suc n) f h = let q = sum_zero n f (λ j k. h j (omega arith)) in let q₁ = h n (omega arith) in omega arith

-- one place only is not 0
pub sum_one : (n : ℕ) (f : ℕ → ℕ) (k : ℕ) → k < n → ((j : ℕ) → (j ≡ k → ⊥) → f j ≡ 0) → sum n f ≡ f k
unfolding sum
sum_one zero f k l h = absurd (omega arith)
sum_one (suc n) f k l h =
    by_place k n
    (λ e. let q = sum_zero n f (λ j m. h j (λ d. omega arith)) in let q₁ = ap f e in omega arith)
    (λ d. let q = sum_one n f k (omega arith) h in let q₁ = h n (λ m. omega arith) in omega arith)
