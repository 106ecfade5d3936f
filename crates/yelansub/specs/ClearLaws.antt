-- LAWS. A clear whose value is left out is a clear.
use Rattle.std.specs.Prelude.{ℕ, Result, List, ◌≡◌, refl}
use Rattle.std.proofs.Common.{ap, ◌∙◌}
use Rattle.protocol.specs.declared.Refusal.{Refusal}
use Rattle.replica_model.specs.declared.Made.{Made}
use Rattle.replica_model.specs.Calls.{SendOutcome, ClearedOutcome, clear_on, read_and_clear_on}
use Rattle.replica_model.specs.Told.{sent_answer, cleared_answer}

abbrev without_value : ClearedOutcome → SendOutcome
without_value o = record { answer = record { number = o.answer.number; sequence = o.answer.sequence; length = o.answer.length }; words = o.words; out = o.out }

told : (made : Result Made Refusal) (words out : List ℕ)
    → ◌≡◌ {A = SendOutcome} (record { answer = sent_answer made; words = words; out = out }) (without_value (record { answer = cleared_answer made; words = words; out = out }))
told (Result.Ok m) words out = refl
told (Result.Err refusal) words out = refl

pub cleared : (b : List ℕ) (q : ℕ) (room : List ℕ) (made : Result Made Refusal) (words out : List ℕ)
    → ◌≡◌ {A = ClearedOutcome} (record { answer = cleared_answer made; words = words; out = out }) (read_and_clear_on b q room)
    → ◌≡◌ {A = SendOutcome} (record { answer = sent_answer made; words = words; out = out }) (clear_on b q room)
unfolding read_and_clear_on
cleared b q room made words out done = told made words out ∙ ap without_value done
