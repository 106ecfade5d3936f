-- DEFINITIONS. A call as a list of checks and a result: the first check that fails gives the refusal and its number, and where none fails the call is its
-- result. The order of a call's refusals is the order of its list, and stands nowhere else.
use Rattle.std.specs.Prelude.{ℕ, ◌≡◌, ◌≢◌, ◌↔◌, List, [], ◌∷◌, Bool, true, false, cond, eqb}

-- a check, and the number that is given where it fails
pub record Check : Type 0 where
  pub passed : Bool
  pub number : ℕ

abbrev pub or_else : Bool → ℕ → Check
or_else passed number = record { passed = passed; number = number }

-- the call: `refusal` of the number of the first check that fails, or the result
abbrev pub checked : {A : Type 0} → (ℕ → A) → List Check → A → A
checked refusal [] result = result
checked refusal (c ∷ cs) result = cond c.passed (checked refusal cs result) (refusal c.number)

-- the number of the first check that fails, 0 where none does
abbrev pub first_failing : List Check → ℕ
first_failing cs = checked (λ n. n) cs 0

-- every check of the list passes
abbrev pub AllPass : List Check → Type 0
AllPass [] = Unit {0}
AllPass (c ∷ cs) = (c.passed ≡ true) × AllPass cs

-- "For each number, the call gives it if and only if its cause holds and no earlier one does"; 0 stands for no cause
abbrev pub Gives : List Check → ℕ → Type 0
Gives [] n = n ≡ 0
Gives (c ∷ cs) n = cond (eqb n c.number) (c.passed ≡ false) ((c.passed ≡ true) × Gives cs n)

-- a call whose outcome is `o`, with the checks `cs`
pub record Decided {A : Type 0} (number : A → ℕ) (refusal : ℕ → A) (cs : List Check) (result o : A) : Type 0 where
  -- each number is given exactly where its cause holds and no earlier one does, 0 exactly where none does
  pub exact : (n : ℕ) → (number o ≡ n) ↔ Gives cs n
  -- a refusal is its number, zeros, and everything as it was
  pub refused : number o ≢ 0 → o ≡ refusal (number o)
  -- what is not refused is done
  pub accepted : number o ≡ 0 → o ≡ result
