-- LAWS. The walk along a log for message number q: `at` bytes are passed, and message number i is the next one (`Walk`).
use Rattle.std.specs.Prelude.{ℕ, Option, suc, ◌+◌, ◌-◌, ◌≤◌, ◌<◌, ◌≡◌, refl, List, [], take, drop}
use Rattle.std.proofs.Math.Path.{sym}
use Rattle.std.proofs.Common.{ap, ◌∙◌, arith, length-drop, take_all, length-take-le, drop-drop, ne_eqb}
use Rattle.std.proofs.Math.ListN.{length}
use Rattle.protocol.proofs.Cases.{by_place, by_le}
use Rattle.wire.specs.Message.{version_2, front_length}
use Rattle.wire.specs.Told.{unless_0}
use Rattle.chassis_model.specs.Log.{waiting_part, end_of, span_at, waiting_span}
use Rattle.chassis_model.proofs.Ends.{front_within}
use Rattle.chassis_model.proofs.LogLaws.{waiting_none, waiting_next, waiting_here, waiting_zero}

-- ---- what a length that may be none says

pub length_there : (n length : ℕ) → Option.Some n ≡ unless_0 length → (n ≡ length) × (length ≡ 0 → ⊥)
length_there n length is =
    by_place length 0
    (λ e. cc (is, ap (λ (b : ℕ). unless_0 b) e))
    (λ d. (cc (rw (ne_eqb length 0 d) at is), d))

pub length_missing : (length : ℕ) → Option.None ≡ unless_0 length → length ≡ 0
length_missing length is = by_place length 0 (λ e. e) (λ d. cc (rw (ne_eqb length 0 d) at is))

-- ---- the walk

pub record Walk (q : ℕ) (log : List ℕ) (i at : ℕ) : Type 0 where
  pub inside : at ≤ length log
  pub waits : waiting_part (q + 1 - i) (drop at log) ≡ waiting_part q log
  pub behind : at + end_of (q - i) (drop at log) ≡ end_of (q - 1) log

-- what follows `at`, as a part that runs to the end
pub rest_is : (at : ℕ) (log : List ℕ) → take (length log - at) (drop at log) ≡ drop at log
rest_is at log = take_all (length log - at) (drop at log) (omega (arith, length-drop at log))

-- the length of the message that such a part begins with, as the code finds it
abbrev front_found : List ℕ → ℕ → Option ℕ
front_found log at = unless_0 (front_length version_2 (take (length log - at) (drop at log)))

found_is : (log : List ℕ) (at : ℕ) → front_found log at ≡ unless_0 (front_length version_2 (drop at log))
found_is log at = rw (rest_is at log)

-- where the first n + 1 messages end, the first one passed
end_next : (n : ℕ) (log : List ℕ) → front_length version_2 log + end_of n (drop (front_length version_2 log) log) ≡ end_of (suc n) log
unfolding end_of
end_next n log = refl

module _ (q : ℕ) (log : List ℕ) where
  -- message number 0 is asked for
  pub walk_zero : q ≡ 0 → waiting_span q log ≡ span_at 0 0
  unfolding waiting_span
  walk_zero none = rw (waiting_zero q log none)

  pub walk_begins : Walk q log 1 0
  walk_begins = let all : q + 1 - 1 ≡ q = omega arith in record { inside = omega arith; waits = rw all; behind = omega arith }

  module _ (i at : ℕ) (h : Walk q log i at) where
    -- the next message, n bytes long, is passed
    pub walk_next : (n : ℕ) → i < q → Option.Some n ≡ front_found log at → Walk q log (i + 1) (at + n)
    walk_next n more found =
        let there = length_there n _ (found ∙ found_is log at) in
        let room = front_within (drop at log) in
        let rest = drop-drop n at log in
        let left : q + 1 - i - 1 ≡ q + 1 - (i + 1) = omega arith in
        let before : q - i ≡ suc (q - (i + 1)) = omega arith in
        record {
          inside = omega (arith, length-drop at log, h.inside);
          waits = rw (← rest, there.0, ← left) (waiting_next (q + 1 - i) (drop at log) (omega arith) there.1 ∙ h.waits);
          behind = rw (← rest, there.0) (let on = end_next (q - (i + 1)) (drop at log) in let all = rw before at h.behind in omega arith);
        }

    -- no message stands where one has to
    pub walk_none : i ≤ q → Option.None ≡ front_found log at → waiting_span q log ≡ span_at 0 0
    unfolding waiting_span
    walk_none more found =
        let none = length_missing _ (found ∙ found_is log at) in
        let empty : waiting_part (q + 1 - i) (drop at log) ≡ [] =
        by_le (q + 1 - i) 1
        (λ l. let one : q + 1 - i ≡ 1 = omega arith in waiting_here (q + 1 - i) (drop at log) one ∙ rw none)
        (λ l. waiting_none (q + 1 - i) (drop at log) l none) in
        rw (← h.waits, empty)

    -- the next message, n bytes long, is asked for
    pub walk_here : (n : ℕ) → i ≡ q → Option.Some n ≡ front_found log at → waiting_span q log ≡ record { start = at; length = n }
    unfolding waiting_span end_of
    walk_here n last found =
        let there = length_there n _ (found ∙ found_is log at) in
        let one : q + 1 - i ≡ 1 = omega arith in
        let none : q - i ≡ 0 = omega arith in
        let start : at ≡ end_of (q - 1) log = omega (arith, rw none at h.behind) in
        let room : n ≤ length (drop at log) = omega (arith, front_within (drop at log), there.0) in
        let long : n ≡ length (waiting_part q log)
        = sym (ap length (sym h.waits ∙ waiting_here (q + 1 - i) (drop at log) one) ∙ rw (← there.0) (length-take-le n (drop at log) room)) in
        rw (← start, ← long, ne_eqb n 0 (λ e. there.1 (sym there.0 ∙ e)))
