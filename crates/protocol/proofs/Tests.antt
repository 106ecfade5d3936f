-- LAWS. Tests as facts, and facts as tests: with `h : leb a b && eqb c d ≡ true`, `simp tests at h` is the facts a ≤ b and c ≡ d, and `simp tests` asks for
-- them where the goal is the test. `ltb a b` is `leb (suc a) b`, so `leb_iff` serves it too.
use Rattle.std.specs.Prelude.{ℕ, ◌≤◌, ◌≡◌, ◌↔◌, true, leb, eqb}
use Rattle.std.proofs.Math.Bool.{and-eq-true_iff}
use Rattle.std.proofs.Common.{leb-true, eqb-true, le-leb, eq-eqb}

pub leb_iff : (a b : ℕ) → (leb a b ≡ true) ↔ (a ≤ b)
leb_iff a b = (leb-true a b, le-leb a b)

pub eqb_iff : (a b : ℕ) → (eqb a b ≡ true) ↔ (a ≡ b)
eqb_iff a b = (eqb-true a b, eq-eqb a b)

pub ruleset tests = (and-eq-true_iff, leb_iff, eqb_iff)
