-- LAWS. A log that is walked and measured, a message at a time.
use Rattle.std.specs.Prelude.{ℕ, ◌+◌, ◌*◌, ◌≤◌, ◌<◌, ◌≡◌, refl, Bool, true, ◌&&◌, cond, Option, length, take, drop, leb, eqb}
use Rattle.std.proofs.Math.Path.{sym}
use Rattle.std.proofs.Common.{◌∙◌, arith, length-drop}
use Rattle.std.proofs.Math.Bool.{and_assoc, and-true}
use mathlib.Core.List.{List, [], ◌∷◌}
use Rattle.std.proofs.lemmas.List.{nil_from_length}
use Rattle.protocol.proofs.Cases.{by_test}
use Rattle.wire.specs.Number.{Bytes, int_width, int_at}
use Rattle.wire.specs.declared.Message.{Message}
use Rattle.wire.specs.Message.{increment_kind, clear_kind, kind_at, amount_at, amount_in, increment_message, clear_message, message_at, front_length, log_bytes, messages_from, messages_in, is_log}
use Rattle.wire.specs.RoundTrips.{read_clear, read_increment}
use Rattle.conversion.specs.Conversion.{all_by_one}
use Rattle.conversion.specs.ClaimTerms.{one_if_increment, increments}
use Rattle.conversion.proofs.LogLaws.{bytes_drop, front_there, messages_next}
use Rattle.converter.specs.declared.measure.Found.{Found}
use Rattle.converter.specs.FirstLaws.{first_long, no_log, log_rest}

-- ---- one message

module _ (version : ℕ) (s : List ℕ) where
  pub seen_clear : int_at s kind_at ≡ clear_kind → (true ≡ leb (message_at version s).amount 1) × (0 ≡ one_if_increment (message_at version s))
  unfolding clear_message
  seen_clear kind = rw (read_clear version s kind) (refl, refl)

  pub seen_increment : (int_at s kind_at ≡ clear_kind → ⊥) → (amount : ℕ) → amount ≡ amount_in version s amount_at
      → (leb amount 1 ≡ leb (message_at version s).amount 1) × (1 ≡ one_if_increment (message_at version s))
  unfolding increment_message
  seen_increment other amount is = rw (read_increment version s other, is) (refl, refl)

-- ---- the log

-- what is found of a log, if the bytes are one
unfoldable pub measured : ℕ → List ℕ → Option Found
measured version log =
    let ms = messages_in version log in
    cond (is_log version log) (Option.Some (record { by_one = all_by_one ms; increments = increments ms })) Option.None

-- the bytes of the log that are left where some messages are passed, with `count` increments among them
pub record Walked (version : ℕ) (log : List ℕ) (by_one : Bool) (count : ℕ) (rest : List ℕ) : Type 0 where
  pub bytes : Bytes rest
  pub right : is_log version rest ≡ is_log version log
  pub amounts : by_one && all_by_one (messages_in version rest) ≡ all_by_one (messages_in version log)
  pub counted : count + increments (messages_in version rest) ≡ increments (messages_in version log)
  pub few : int_width * count + length rest ≤ length log

pub walk_begins : (version : ℕ) (log : List ℕ) → Bytes log → Walked version log true 0 log
walk_begins version log bytes = record { bytes = bytes; right = refl; amounts = refl; counted = omega arith; few = omega arith }

by_one_next : (m : Message) (ms : List Message) → all_by_one (m ∷ ms) ≡ leb m.amount 1 && all_by_one ms
unfolding all_by_one
by_one_next m ms = refl

increments_next : (m : Message) (ms : List Message) → increments (m ∷ ms) ≡ one_if_increment m + increments ms
unfolding increments
increments_next m ms = refl

few_more : (m : Message) → one_if_increment m ≤ 1
few_more m = by_test (eqb m.kind increment_kind) (λ t. rw t (omega arith)) (λ f. rw f (omega arith))

module _ (version : ℕ) (log : List ℕ) (by_one : Bool) (count : ℕ) (rest : List ℕ) (h : Walked version log by_one count rest) where
  -- the message in front is passed
  pub walk_next : (n : ℕ) (by : Bool) (one : ℕ) → n ≡ front_length version rest → (front_length version rest ≡ 0 → ⊥)
      → by ≡ leb (message_at version (take n rest)).amount 1 → one ≡ one_if_increment (message_at version (take n rest))
      → Walked version log (by_one && by) (count + one) (drop n rest)
  walk_next n by one front there small single =
      let m = message_at version (take n rest) in
      let next = rw (← front) at (messages_next version rest there) in
      let long = first_long version rest there in
      let room = (front_there version rest there).inside in
      record {
        bytes = bytes_drop n rest h.bytes;
        right = sym (rw (← front) at (log_rest version rest there h.bytes)) ∙ h.right;
        amounts = rw small (and_assoc by_one (leb m.amount 1) (all_by_one (messages_in version (drop n rest))) ∙ rw (next, by_one_next) at h.amounts);
        counted = omega (arith, single, rw (next, increments_next) at h.counted);
        few = omega (arith, single, few_more m, long, front, room, h.few, length-drop n rest);
      }

  -- no message stands in front
  pub walk_stops : front_length version rest ≡ 0 → 0 < length rest → Option.None ≡ measured version log
  unfolding measured
  walk_stops none more = rw (sym h.right ∙ no_log version rest more none)

  -- all are passed
  pub walk_ends : length rest ≡ 0 → Option.Some (record { by_one = by_one; increments = count }) ≡ measured version log
  unfolding measured messages_from log_bytes all_by_one increments
  walk_ends all =
      let none : rest ≡ [] = nil_from_length rest all in
      let one : by_one ≡ all_by_one (messages_in version log) = sym (and-true by_one) ∙ rw none at h.amounts in
      let all_counted : count ≡ increments (messages_in version log) = omega (arith, rw none at h.counted) in
      rw (← (rw none at h.right), one, all_counted)
