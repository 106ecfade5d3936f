-- LAWS. A refusal has a number, which is not that of an accepted call, and no other has the same.
use Rattle.std.specs.Prelude.{◌≡◌, ◌≢◌, ℕ, cond, refl, ◌==◌}
use Rattle.std.proofs.Common.{arith, sym, ap, ◌∙◌}
use Rattle.protocol.specs.Refusals.{number_of}
use Rattle.protocol.specs.declared.Refusal.{Refusal}
use Rattle.protocol.specs.declared.Refusal.TheVariants.{BadReplica, BadRow, BadCounter, Exhausted, ShortOutput, Unreadable, BadCard, Repeated, Early, Implausible, BadSizes, BadKind, NothingWaiting, LogFull, BadLog, BadAmount, AboveOne}

pub refusal_some : (x : Refusal) → number_of x ≢ 0
refusal_some x = grind arith

-- the refusal of a number
abbrev refusal_at : ℕ → Refusal
refusal_at n =
    cond (n == 1) BadReplica (
    cond (n == 2) BadRow (
    cond (n == 3) BadCounter (
    cond (n == 4) Exhausted (
    cond (n == 5) ShortOutput (
    cond (n == 6) Unreadable (
    cond (n == 7) BadCard (
    cond (n == 8) Repeated (
    cond (n == 9) Early (
    cond (n == 10) Implausible (
    cond (n == 11) BadSizes (
    cond (n == 12) BadKind (
    cond (n == 13) NothingWaiting (
    cond (n == 14) LogFull (
    cond (n == 15) BadLog (
    cond (n == 16) BadAmount AboveOne)))))))))))))))

back : (x : Refusal) → refusal_at (number_of x) ≡ x
back BadReplica = refl
back BadRow = refl
back BadCounter = refl
back Exhausted = refl
back ShortOutput = refl
back Unreadable = refl
back BadCard = refl
back Repeated = refl
back Early = refl
back Implausible = refl
back BadSizes = refl
back BadKind = refl
back NothingWaiting = refl
back LogFull = refl
back BadLog = refl
back BadAmount = refl
back AboveOne = refl

pub one_number : (x y : Refusal) → number_of x ≡ number_of y → x ≡ y
one_number x y same = sym (back x) ∙ ap refusal_at same ∙ back y
