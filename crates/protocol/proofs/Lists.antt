-- LAWS. Lists: a property of each place when one element is appended; what was appended, taken off again.
use Rattle.std.specs.Prelude.{ℕ, suc, ◌+◌, ◌<◌, ◌≡◌, List, [], ◌∷◌, ◌++◌, length, get_or, take}
use Rattle.std.proofs.Common.{sym, ap, ap₂, ◌∙◌, arith, length-append}
use Rattle.std.proofs.Math.ListN.{get_or-append}
use Rattle.std.proofs.Math.Seq.{get_or-append_seam, take-append_seam}
use Rattle.protocol.proofs.Cases.{by_le}

pub places_more {ℓ} : {A : Type ℓ} (P : A → Type 0) (d : A) (h : List A) (t : A) → ((n : ℕ) → n < length h → P (get_or h n d)) → P t
    → (n : ℕ) → n < length (h ++ t ∷ []) → P (get_or (h ++ t ∷ []) n d)
places_more P d h t old new n l =
    by_le (suc n) (length h)
    (λ m. rw (get_or-append h (t ∷ []) d n m) (old n m))
    (λ m.
    let l₁ : n < length h + 1 = rw (length-append h (t ∷ [])) at l in
    let e : n ≡ length h = omega arith in
    rw (e, get_or-append_seam h t [] d) new)

pub append_cancel {ℓ} : {A : Type ℓ} (xs ys zs : List A) → xs ++ zs ≡ ys ++ zs → xs ≡ ys
append_cancel xs ys zs e =
    let a = ap length e in
    let b = length-append xs zs in
    let c = length-append ys zs in
    let same : length xs ≡ length ys = omega arith in
    sym (take-append_seam xs zs) ∙ ap₂ take same e ∙ take-append_seam ys zs
