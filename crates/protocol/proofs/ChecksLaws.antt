-- LAWS. What every call made of checks has (`Checks`), by induction over the list, for every call and every list at once: it gives the number of the first
-- check that fails; refused, it is that refusal and nothing else; it is accepted exactly where no check fails; and the number of the first check that
-- fails, worked out by itself, tells which of these it is. What holds of 0 and of every number of the list holds of that number.
use Rattle.std.specs.Prelude.{ℕ, ◌≡◌, refl, ◌↔◌, ◌≢◌, List, [], ◌∷◌, ◌++◌, Bool, true, false, not, cond, ◌&&◌, eqb, ltb}
use Rattle.std.proofs.Common.{sym, ap, ◌∙◌, true≢false, arith, eqb-true, ltb-true, eq-eqb, ne_eqb}
use Rattle.std.proofs.Math.Bool.{and-eq-true_iff}
use Rattle.std.proofs.lemmas.Bool.{false≢true, eqb-false, not-true}
use Rattle.protocol.proofs.Cases.{by_place, by_test, and_left, and_right}
use Rattle.protocol.specs.Checks.{Check, or_else, checked, first_failing, AllPass, Gives, Decided}

-- the numbers are not 0 and differ: a test that computes for each call's list
abbrev apart : ℕ → List Check → Bool
apart n [] = ltb 0 n
apart n (c ∷ cs) = not (eqb c.number n) && apart n cs

abbrev pub distinct : List Check → Bool
distinct [] = true
distinct (c ∷ cs) = apart c.number cs && distinct cs

apart_some : (n : ℕ) (cs : List Check) → apart n cs ≡ true → n ≢ 0
apart_some n [] h e = let k = ltb-true 0 n h in omega arith
apart_some n (c ∷ cs) h e = apart_some n cs (simp and-eq-true_iff at h).1 e

module _ {A : Type 0} (number : A → ℕ) (refusal : ℕ → A) (named : (n : ℕ) → number (refusal n) ≡ n) (result : A) (good : number result ≡ 0) where
  abbrev outcome : List Check → A
  outcome cs = checked refusal cs result

  never : (n : ℕ) (cs : List Check) → apart n cs ≡ true → number (outcome cs) ≡ n → ⊥
  never n [] h e = apart_some n [] h (sym e ∙ good)
  never n (c ∷ cs) h e =
      by_test c.passed (λ t. never n cs (simp and-eq-true_iff at h).1 (rw t at e))
      (λ t. eqb-false c.number n (not-true _ (simp and-eq-true_iff at h).0) (sym (named c.number) ∙ rw t at e))

  -- one check, and what comes next
  step : {P : Type 0} (t same : Bool) (x : A) (k n : ℕ) → eqb n k ≡ same → (number x ≡ k → ⊥) → (number x ≡ n) ↔ P
      → (number (cond t x (refusal k)) ≡ n) ↔ cond same (t ≡ false) ((t ≡ true) × P)
  step true true x k n e far next = (λ h. absurd (far (h ∙ eqb-true n k e)), λ h. absurd (true≢false h))
  step false true x k n e far next = (λ h. refl, λ h. named k ∙ sym (eqb-true n k e))
  step true false x k n e far next = (λ h. (refl, next.0 h), λ h. next.1 h.1)
  step false false x k n e far next = (λ h. absurd (eqb-false n k e (sym h ∙ named k)), λ h. absurd (false≢true h.0))

  decides : (cs : List Check) → distinct cs ≡ true → (n : ℕ) → (number (outcome cs) ≡ n) ↔ Gives cs n
  decides [] d n = (λ e. sym e ∙ good, λ e. good ∙ sym e)
  decides (c ∷ cs) d n =
      step c.passed (eqb n c.number) (outcome cs) c.number n refl (never c.number cs (simp and-eq-true_iff at d).0) (decides cs (simp and-eq-true_iff at d).1 n)

  refuses : (cs : List Check) → number (outcome cs) ≢ 0 → outcome cs ≡ refusal (number (outcome cs))
  refuses [] h = absurd (h good)
  refuses (c ∷ cs) h = by_test c.passed (λ t. rw t (refuses cs (rw t at h))) (λ t. rw (t, named c.number))

  accepts : (cs : List Check) → distinct cs ≡ true → number (outcome cs) ≡ 0 → outcome cs ≡ result
  accepts [] d h = refl
  accepts (c ∷ cs) d h =
      by_test c.passed (λ t. rw t (accepts cs (simp and-eq-true_iff at d).1 (rw t at h)))
      (λ t. absurd (apart_some c.number cs (simp and-eq-true_iff at d).0 (sym (named c.number) ∙ rw t at h)))

  pub decided : (cs : List Check) → distinct cs ≡ true → Decided number refusal cs result (outcome cs)
  decided cs d = record { exact = decides cs d; refused = refuses cs; accepted = accepts cs d }

-- where a number's cause holds and no earlier one does, the call is that refusal
pub refusal_given : {A : Type 0} {number : A → ℕ} {refusal : ℕ → A} {cs : List Check} {result o : A} → Decided number refusal cs result o
    → (n : ℕ) → n ≢ 0 → Gives cs n → o ≡ refusal n
refusal_given {refusal} d n some g = let e = (d.exact n).1 g in d.refused (λ z. some (sym e ∙ z)) ∙ ap refusal e

-- ---- the number by itself, as code works it out before it makes the result

module _ {A : Type 0} (refusal : ℕ → A) (result : A) where
  -- not 0: the call is that refusal
  pub first_refuses : (cs : List Check) → first_failing cs ≢ 0 → refusal (first_failing cs) ≡ checked refusal cs result
  first_refuses [] h = absurd (h refl)
  first_refuses (c ∷ cs) h = by_test c.passed (λ t. rw t (first_refuses cs (rw t at h))) (λ t. rw t)

  -- every check passes: the call is its result
  pub all_accepts : (cs : List Check) → AllPass cs → checked refusal cs result ≡ result
  all_accepts [] h = refl
  all_accepts (c ∷ cs) h = rw h.0 (all_accepts cs h.1)

  -- the first that fails
  pub refused_at : (cs : List Check) (c : Check) (ds : List Check) → AllPass cs → c.passed ≡ false → checked refusal (cs ++ c ∷ ds) result ≡ refusal c.number
  refused_at [] c ds h f = rw f
  refused_at (d ∷ cs) c ds h f = rw h.0 (refused_at cs c ds h.1 f)

-- 0: every check passes
pub first_passes : (cs : List Check) → distinct cs ≡ true → first_failing cs ≡ 0 → AllPass cs
first_passes [] d h = tt
first_passes (c ∷ cs) d h =
    by_test c.passed (λ t. (t, first_passes cs (simp and-eq-true_iff at d).1 (rw t at h)))
    (λ t. absurd (apart_some c.number cs (simp and-eq-true_iff at d).0 (rw t at h)))

-- lists of checks one after the other
pub checked_append : {A : Type 0} (refusal : ℕ → A) (cs ds : List Check) (result : A) → checked refusal (cs ++ ds) result ≡ checked refusal cs (checked refusal ds result)
checked_append refusal [] ds result = refl
checked_append refusal (c ∷ cs) ds result = by_test c.passed (λ t. rw t (checked_append refusal cs ds result)) (λ t. rw t)

pub all_append : (cs ds : List Check) → AllPass cs → AllPass ds → AllPass (cs ++ ds)
all_append [] ds h k = k
all_append (c ∷ cs) ds h k = (h.0, all_append cs ds h.1 k)

pub all_first : (cs ds : List Check) → AllPass (cs ++ ds) → AllPass cs
all_first [] ds h = tt
all_first (c ∷ cs) ds h = (h.0, all_first cs ds h.1)

pub all_second : (cs ds : List Check) → AllPass (cs ++ ds) → AllPass ds
all_second [] ds h = h
all_second (c ∷ cs) ds h = all_second cs ds h.1

-- accepted exactly where every check passes
pub gives_passes : (cs : List Check) → distinct cs ≡ true → Gives cs 0 → AllPass cs
gives_passes [] d h = tt
gives_passes (c ∷ cs) d h =
    let some = apart_some c.number cs (simp and-eq-true_iff at d).0 in
    let other : eqb 0 c.number ≡ false = ne_eqb 0 c.number (λ e. some (sym e)) in
    let h' = rw other at h in
    (h'.0, gives_passes cs (simp and-eq-true_iff at d).1 h'.1)

pub passes_gives : (cs : List Check) → distinct cs ≡ true → AllPass cs → Gives cs 0
passes_gives [] d h = refl
passes_gives (c ∷ cs) d h =
    let some = apart_some c.number cs (simp and-eq-true_iff at d).0 in
    let other : eqb 0 c.number ≡ false = ne_eqb 0 c.number (λ e. some (sym e)) in
    rw other (h.0, passes_gives cs (simp and-eq-true_iff at d).1 h.1)

-- ---- by cases

module _ {A : Type 0} (refusal : ℕ → A) (cs : List Check) (result : A) (d : distinct cs ≡ true) where
  -- it is a refusal, or every check passes and it is its result
  pub checked_cases : (P : A → Type 0) → ((n : ℕ) → n ≢ 0 → P (refusal n)) → (AllPass cs → P result) → P (checked refusal cs result)
  checked_cases P refuses accepts =
      by_place (first_failing cs) 0
      (λ e. let all = first_passes cs d e in rw (all_accepts refusal result cs all) (accepts all))
      (λ some. rw (← (first_refuses refusal result cs some)) (refuses (first_failing cs) some))

-- the first check that fails is the one whose number the list gives
pub first_is : (cs : List Check) → distinct cs ≡ true → (n : ℕ) → Gives cs n → first_failing cs ≡ n
first_is cs d n gives = ((decided (λ n. n) (λ n. n) (λ n. refl) 0 refl cs d).exact n).1 gives

-- so the call is that refusal, whatever its result is
pub refusal_is : {A : Type 0} (refusal : ℕ → A) (cs : List Check) (result : A) → distinct cs ≡ true → (n : ℕ) → n ≢ 0 → Gives cs n
    → checked refusal cs result ≡ refusal n
refusal_is refusal cs result d n some gives =
    let e = first_is cs d n gives in sym (first_refuses refusal result cs (λ z. some (sym e ∙ z))) ∙ ap refusal e

-- of every number of the list
abbrev every : (ℕ → Bool) → List Check → Bool
every f [] = true
every f (c ∷ cs) = f c.number && every f cs

-- the last check under another number
pub last_renamed : (cs : List Check) (t : Bool) (a b : ℕ) → every (λ n. not (eqb n a)) cs ≡ true → eqb 0 a ≡ false
    → cond (eqb (first_failing (cs ++ or_else t a ∷ [])) a) b (first_failing (cs ++ or_else t a ∷ [])) ≡ first_failing (cs ++ or_else t b ∷ [])
last_renamed [] t a b all some = by_test t (λ e. rw (e, some)) (λ e. rw (e, eq-eqb a a refl))
last_renamed (c ∷ cs) t a b all some =
    by_test c.passed (λ e. rw e (last_renamed cs t a b (and_right (not (eqb c.number a)) (every (λ n. not (eqb n a)) cs) all) some))
    (λ e. let other : eqb c.number a ≡ false = not-true _ (and_left (not (eqb c.number a)) (every (λ n. not (eqb n a)) cs) all) in rw (e, other))

pub first_among : (f : ℕ → Bool) → f 0 ≡ true → (cs : List Check) → every f cs ≡ true → f (first_failing cs) ≡ true
first_among f zero [] all = zero
first_among f zero (c ∷ cs) all =
    by_test c.passed (λ t. rw t (first_among f zero cs (and_right (f c.number) (every f cs) all))) (λ t. rw t (and_left (f c.number) (every f cs) all))
