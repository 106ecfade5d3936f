-- LAWS. The two calls, once the log is measured.
use Rattle.std.specs.Prelude.{ℕ, ◌+◌, ◌*◌, ◌-◌, ◌≡◌, true, false, List, [], ◌∷◌, Option, length, leb}
use Rattle.std.proofs.Common.{arith}
use Rattle.protocol.specs.Limits.{short_output, unreadable, above_one}
use Rattle.protocol.specs.Checks.{or_else, checked}
use Rattle.protocol.proofs.Cases.{by_test}
use Rattle.wire.specs.Number.{Bytes, int_width}
use Rattle.wire.specs.Message.{version_1, version_2, messages_in, is_log, WriteOutcome, write_declined}
use Rattle.conversion.specs.Conversion.{converted, all_by_one, converted_into, to_version_2_on, to_version_1_on}
use Rattle.conversion.specs.ClaimTerms.{increments}
use Rattle.conversion.proofs.ConversionLaws.{length_converted_up, length_converted_down}
use Rattle.converter.specs.declared.measure.Found.{Found}
use Rattle.converter.specs.MeasureLaws.{measured}

-- the last check of both calls, and what they write
abbrev pub converted_if_room : (from to : ℕ) → List ℕ → List ℕ → WriteOutcome
converted_if_room from to s out =
    checked (λ n. write_declined n out) (or_else (leb (length (converted from to s)) (length out)) short_output ∷ []) (converted_into from to s out)

-- what was found is so of the log
pub record Measured (version : ℕ) (s : List ℕ) (found : Found) : Type 0 where
  pub log : is_log version s ≡ true
  pub amounts : found.by_one ≡ all_by_one (messages_in version s)
  pub counted : found.increments ≡ increments (messages_in version s)

pub measured_log : (version : ℕ) (s : List ℕ) (found : Found) → Option.Some found ≡ measured version s → Measured version s found
unfolding measured
measured_log version s found e =
    by_test (is_log version s)
    (λ yes. let same = rw yes at e in record { log = yes; amounts = cc; counted = cc })
    (λ no. let other = rw no at e in cc)

pub measured_none : (version : ℕ) (s : List ℕ) → Option.None ≡ measured version s → is_log version s ≡ false
unfolding measured
measured_none version s e =
    by_test (is_log version s)
    (λ yes. let other = rw yes at e in cc)
    (λ no. no)

module _ (s out : List ℕ) where
  pub up_unreadable : Option.None ≡ measured version_1 s → write_declined unreadable out ≡ to_version_2_on s out
  unfolding to_version_2_on
  up_unreadable none = rw (measured_none version_1 s none)

  pub down_unreadable : Option.None ≡ measured version_2 s → write_declined unreadable out ≡ to_version_1_on s out
  unfolding to_version_1_on
  down_unreadable none = rw (measured_none version_2 s none)

  module _ (found : Found) where
    pub up_log : Option.Some found ≡ measured version_1 s → to_version_2_on s out ≡ converted_if_room version_1 version_2 s out
    unfolding to_version_2_on
    up_log is = rw (measured_log version_1 s found is).log

    pub up_long : Option.Some found ≡ measured version_1 s → Bytes s → length s + int_width * found.increments ≡ length (converted version_1 version_2 s)
    up_long is bytes = let m = measured_log version_1 s found is in omega (arith, length_converted_up s bytes m.log, m.counted)

    pub down_above_one : Option.Some found ≡ measured version_2 s → found.by_one ≡ false → write_declined above_one out ≡ to_version_1_on s out
    unfolding to_version_1_on
    down_above_one is above = let m = measured_log version_2 s found is in rw (m.log, ← m.amounts, above)

    pub down_log : Option.Some found ≡ measured version_2 s → found.by_one ≡ true → to_version_1_on s out ≡ converted_if_room version_2 version_1 s out
    unfolding to_version_1_on
    down_log is one = let m = measured_log version_2 s found is in rw (m.log, ← m.amounts, one)

    pub down_long : Option.Some found ≡ measured version_2 s → Bytes s → length s - int_width * found.increments ≡ length (converted version_2 version_1 s)
    down_long is bytes = let m = measured_log version_2 s found is in omega (arith, length_converted_down s bytes m.log, m.counted)
