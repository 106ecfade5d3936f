-- LAWS. The names of a list, and the latest of them: of two lists one behind the other, of a card's names in a row, of a set that names have joined.
use Rattle.std.specs.Prelude.{ℕ, zero, suc, ◌+◌, ◌≤◌, ◌<◌, max, ◌≡◌, refl, Bool, true, false, cond, ◌||◌, List, [], ◌∷◌, ◌++◌, eqb}
use Rattle.std.proofs.Common.{sym, ap₂, ◌∙◌, arith, eq-eqb, ne_eqb}
use Rattle.std.proofs.lemmas.Bool.{false≢true}
use Rattle.protocol.proofs.Cases.{by_test, by_place, or_cases, or_left, or_right}
use Rattle.protocol.specs.Names.{Name, name, same_name, has, insert, join, names_after, names_up_to, latest}
use Rattle.protocol.proofs.NameLaws.{same_name_is, found, has_first, has_more, latest_bounds}

pub has_none {ℓ} : {P : Type ℓ} (n : Name) → has [] n ≡ true → P
unfolding has
has_none n h = absurd (false≢true h)

-- a name of a list is the first, or in the rest
pub first_or_rest {ℓ} : {P : Type ℓ} (m : Name) (s : List Name) (n : Name) → has (m ∷ s) n ≡ true → (m ≡ n → P) → (has s n ≡ true → P) → P
first_or_rest m s n h a b = found m s n.card n.ordinal h (λ e d. a (ap₂ name e d)) b

is_first : (m : Name) (s : List Name) → has (m ∷ s) m ≡ true
is_first m s = has_first m s m.card m.ordinal refl refl

-- ---- two lists

pub from_append {ℓ} : {P : Type ℓ} (s t : List Name) (n : Name) → has (s ++ t) n ≡ true → (has s n ≡ true → P) → (has t n ≡ true → P) → P
from_append [] t n h a b = b h
from_append (m ∷ s) t n h a b =
    first_or_rest m (s ++ t) n h (λ e. a (rw e (is_first n s))) (λ g. from_append s t n g (λ c. a (has_more m s n c)) b)

pub has_append_left : (s t : List Name) (n : Name) → has s n ≡ true → has (s ++ t) n ≡ true
has_append_left [] t n h = has_none n h
has_append_left (m ∷ s) t n h =
    first_or_rest m s n h (λ e. rw e (is_first n (s ++ t))) (λ g. has_more m (s ++ t) n (has_append_left s t n g))

pub has_append_right : (s t : List Name) (n : Name) → has t n ≡ true → has (s ++ t) n ≡ true
has_append_right [] t n h = h
has_append_right (m ∷ s) t n h = has_more m (s ++ t) n (has_append_right s t n h)

-- ---- card j's names after the b-th, w of them

pub names_after_only : (j b w i o : ℕ) → has (names_after j b w) (name i o) ≡ true → (i ≡ j) × (b < o) × (o ≤ b + w)
unfolding names_after
names_after_only j b zero i o h = has_none (name i o) h
names_after_only j b (suc w) i o h =
    found (name j (suc b)) (names_after j (suc b) w) i o h
    (λ c d. (sym c, omega arith, omega arith))
    (λ g. let q = names_after_only j (suc b) w i o g in (q.0, omega arith, omega arith))

pub names_after_all : (j b w o : ℕ) → b < o → o ≤ b + w → has (names_after j b w) (name j o) ≡ true
unfolding names_after
names_after_all j b zero o l m = absurd (omega arith)
names_after_all j b (suc w) o l m =
    by_place o (suc b)
    (λ e. rw e (is_first (name j (suc b)) (names_after j (suc b) w)))
    (λ d. has_more (name j (suc b)) (names_after j (suc b) w) (name j o) (names_after_all j (suc b) w o (omega arith) (omega arith)))

-- ---- names that join

has_insert : (m : Name) (s : List Name) (n : Name) → has (insert m s) n ≡ same_name m n || has s n
unfolding insert has
has_insert m s n =
    by_test (has s m)
    (λ e. rw e (by_test (same_name m n) (λ d. rw d (rw (same m n d) at e)) (λ d. rw d)))
    (λ e. rw e)
  where
    same : (m n : Name) → same_name m n ≡ true → m ≡ n
    same m n e = let q = same_name_is m n.card n.ordinal e in ap₂ name q.0 q.1

-- the set that is left has just the names that joined and those that were there
pub has_join : (a s : List Name) (n : Name) → has (join a s) n ≡ has a n || has s n
unfolding join has
has_join [] s n = refl
has_join (m ∷ a) s n = has_join a (insert m s) n ∙ rw (has_insert m s n) (or_turn (same_name m n) (has a n) (has s n))
  where
    or_turn : (a b c : Bool) → b || (a || c) ≡ (a || b) || c
    or_turn true true c = refl
    or_turn true false c = refl
    or_turn false b c = refl

pub from_join {ℓ} : {P : Type ℓ} (a s : List Name) (n : Name) → has (join a s) n ≡ true → (has a n ≡ true → P) → (has s n ≡ true → P) → P
from_join a s n h f g = or_cases (has a n) (has s n) (rw (has_join a s n) at h) f g

pub has_join_right : (a s : List Name) (n : Name) → has s n ≡ true → has (join a s) n ≡ true
has_join_right a s n h = rw (has_join a s n) (or_right (has a n) (has s n) h)

pub has_join_left : (a s : List Name) (n : Name) → has a n ≡ true → has (join a s) n ≡ true
has_join_left a s n h = rw (has_join a s n) (or_left (has a n) (has s n) h)

-- ---- the latest name

latest_insert : (j : ℕ) (n : Name) (s : List Name) → latest j (insert n s) ≡ max (cond (eqb n.card j) n.ordinal 0) (latest j s)
unfolding insert latest
latest_insert j n s =
    by_test (has s n)
    (λ e.
    rw e
    (by_place n.card j
    (λ d. let q : n.ordinal ≤ latest j s = latest_bounds j n.ordinal s (rw (← d) e) in rw (eq-eqb n.card j d) (omega arith))
    (λ d. rw (ne_eqb n.card j d) (omega arith))))
    (λ e. rw e)

pub latest_join : (j : ℕ) (ns s : List Name) → latest j (join ns s) ≡ max (latest j ns) (latest j s)
unfolding join latest
latest_join j [] s = omega arith
latest_join j (n ∷ ns) s = let a = latest_join j ns (insert n s) in let b = latest_insert j n s in omega arith

pub latest_append : (j : ℕ) (a b : List Name) → latest j (a ++ b) ≡ max (latest j a) (latest j b)
unfolding latest
latest_append j [] b = omega arith
latest_append j (n ∷ a) b = let h = latest_append j a b in omega arith

-- of card i's names after the b-th, w of them; of its names up to the y-th
pub latest_after : (j i b w : ℕ) → max (cond (eqb i j) b 0) (latest j (names_after i b w)) ≡ cond (eqb i j) (b + w) 0
unfolding latest names_after
latest_after j i b zero = by_test (eqb i j) (λ e. rw e (omega arith)) (λ e. rw e (omega arith))
latest_after j i b (suc w) =
    let h = latest_after j i (suc b) w in
    by_test (eqb i j)
    (λ e. let h₁ : max (suc b) (latest j (names_after i (suc b) w)) ≡ suc b + w = rw e at h in rw e (omega arith))
    (λ e. let h₁ : max 0 (latest j (names_after i (suc b) w)) ≡ 0 = rw e at h in rw e (omega arith))

pub latest_up_to : (j i y : ℕ) → latest j (names_up_to i y) ≡ cond (eqb i j) y 0
latest_up_to j i y =
    let h = latest_after j i 0 y in
    by_test (eqb i j)
    (λ e. let h₁ : max 0 (latest j (names_after i 0 y)) ≡ 0 + y = rw e at h in rw e (omega arith))
    (λ e. let h₁ : max 0 (latest j (names_after i 0 y)) ≡ 0 = rw e at h in rw e (omega arith))
