-- LAWS. Lists of any elements: bytes stored in stretches one after the other, numbers stored the last digit first, and parts that lie side by side.
use Rattle.std.specs.Prelude.{◌≡◌, refl, List, [], ◌∷◌, ◌++◌, ℕ, zero, suc, ◌+◌, ◌-◌, ◌≤◌, ◌<◌, length, set, take, drop}
use Rattle.std.proofs.Common.{sym, ap, ◌∙◌, add-zero, add-suc, suc-add, zero-add, not-suc-le-zero, sub-one, arith, length-append, take-add, drop-drop}
use Rattle.std.proofs.lemmas.List.Edits.{sets, sets-eq}
use Rattle.std.proofs.lemmas.List.{set_comm}

module _ {A : Type 0} where
  -- two stretches stored one after the other are one stretch
  pub sets_append : (l : List A) (at : ℕ) (xs ys : List A) → sets l at (xs ++ ys) ≡ sets (sets l at xs) (at + length xs) ys
  sets_append l at [] ys = rw add-zero
  sets_append l at (x ∷ xs) ys = rw (add-suc, ← suc-add) (sets_append (set l at x) (suc at) xs ys)

  -- a store past a stretch may come before it
  pub sets_set : (l : List A) (at : ℕ) (xs : List A) (i : ℕ) (y : A) → at + length xs ≤ i → sets (set l i y) at xs ≡ set (sets l at xs) i y
  sets_set l at [] i y past = refl
  sets_set l at (x ∷ xs) i y past =
      let apart : i ≡ at → ⊥ = λ e. omega arith in
      rw (set_comm l i at y x apart) (sets_set (set l at x) (suc at) xs i y (omega arith))

  -- a stretch stored at the front, and what stays past it
  pub sets_front : (xs l : List A) → length xs ≤ length l → sets l 0 xs ≡ xs ++ drop (length xs) l
  sets_front xs l room = sets-eq xs l 0 (omega arith) ∙ rw zero-add

  -- two parts side by side are one part
  pub parts_join : (l : List A) (at a b : ℕ) → take a (drop at l) ++ take b (drop (at + a) l) ≡ take (a + b) (drop at l)
  parts_join l at a b = sym (take-add a b (drop at l) ∙ rw (drop-drop a at l))

-- `digits n x` is x written in n digits, to whatever base: the last one, and before it those of what is left of x
pub record Positional {A : Type 0} (last : ℕ → A) (rest : ℕ → ℕ) (digits : ℕ → ℕ → List A) : Type 0 where
  pub none : (x : ℕ) → digits zero x ≡ []
  pub more : (n x : ℕ) → digits (suc n) x ≡ digits n (rest x) ++ (last x ∷ [])

module _ {A : Type 0} {last : ℕ → A} {rest : ℕ → ℕ} {digits : ℕ → ℕ → List A} (written : Positional last rest digits) where
  pub length_digits : (n x : ℕ) → length (digits n x) ≡ n
  length_digits zero x = ap length (written.none x)
  length_digits (suc n) x =
      ap length (written.more n x) ∙ length-append (digits n (rest x)) (last x ∷ []) ∙ omega (arith, length_digits n (rest x))

  -- the last of the digits that are left is stored, and then those before it
  pub sets_last_digit : (l : List A) (at left x : ℕ) → 0 < left
      → sets (set l (at + (left - 1)) (last x)) at (digits (left - 1) (rest x)) ≡ sets l at (digits left x)
  sets_last_digit l at zero x some = absurd (not-suc-le-zero some)
  sets_last_digit l at (suc n) x some =
      let long = length_digits n (rest x) in
      rw (sub-one, written.more n x, sets_append l at (digits n (rest x)) (last x ∷ []), long)
      (sets_set l at (digits n (rest x)) (at + n) (last x) (omega arith))
