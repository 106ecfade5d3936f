-- LAWS. The first message of a log, and the log that follows it.
use Rattle.std.specs.Prelude.{ℕ, ◌+◌, ◌-◌, ◌≤◌, ◌<◌, ◌≡◌, refl, true, false, ◌&&◌, Option, List, ◌++◌, take, drop, leb}
use Rattle.std.proofs.Math.Path.{sym}
use Rattle.std.proofs.Common.{◌∙◌, append-nil, drop_of_length-le, take_all, length-take-le}
use native.Mathlib.Omega.{arith}
use Rattle.std.proofs.Math.ListN.{length, length-append, length-drop}
use borrow.Author.Tests.{eq-eqb, ne_eqb, eqb-true}
use Rattle.protocol.proofs.Cases.{by_place, by_test, not_yes}
use Rattle.wire.specs.Number.{Bytes}
use Rattle.wire.specs.Message.{shortest_message, called_length, reads, front_length, log_bytes, messages_in, is_log}
use Rattle.wire.specs.Told.{unless_0}
use Rattle.wire.specs.Claims.{read_is_written}
use Rattle.wire.specs.RoundTrips.{read_long}
use Rattle.conversion.proofs.LogLaws.{bytes_take, front_there, messages_none, messages_next}

-- what follows `at`, as a part that runs to the end
pub rest_is : (at : ℕ) (l : List ℕ) → take (length l - at) (drop at l) ≡ drop at l
rest_is at l = take_all (length l - at) (drop at l) (omega (arith, length-drop at l))

-- nothing follows it
pub rest_put : (at : ℕ) (l part : List ℕ) → take at l ++ (part ++ drop (length l - at) (drop at l)) ≡ take at l ++ part
rest_put at l part =
    let all : length (drop at l) ≤ length l - at = omega (arith, length-drop at l) in rw (drop_of_length-le (drop at l) all, append-nil part)

module _ (version : ℕ) (s : List ℕ) where
  -- a log that is not empty has a first message
  pub log_first : is_log version s ≡ true → 0 < length s → front_length version s ≡ 0 → ⊥
  unfolding log_bytes
  log_first log some none =
      let long : 0 ≡ length s = eqb-true 0 (length s) (rw (messages_none version s none) at log) in omega arith

  -- a length of its own, or none
  pub front_of : (n : ℕ) → Option.Some n ≡ unless_0 (front_length version s) → (n ≡ front_length version s) × (front_length version s ≡ 0 → ⊥)
  front_of n e =
      by_place (front_length version s) 0
      (λ none. let other = rw (eq-eqb (front_length version s) 0 none) at e in cc)
      (λ some. let same = rw (ne_eqb (front_length version s) 0 some) at e in (cc, some))

  pub front_none : Option.None ≡ unless_0 (front_length version s) → front_length version s ≡ 0
  front_none e =
      by_place (front_length version s) 0
      (λ none. none)
      (λ some. let other = rw (ne_eqb (front_length version s) 0 some) at e in cc)

  -- bytes that do not begin with a message are no log
  pub no_log : 0 < length s → front_length version s ≡ 0 → is_log version s ≡ false
  no_log some none = not_yes (is_log version s) (λ log. log_first log some none)

  module _ (some : front_length version s ≡ 0 → ⊥) where
    -- how long it is
    pub first_long : shortest_message ≤ front_length version s
    first_long =
        let f = front_there version s some in
        omega (arith, read_long version (take (front_length version s) s) f.alone, length-take-le (front_length version s) s f.inside)

    pub first_called : called_length version s ≡ front_length version s
    unfolding front_length
    first_called =
        by_test (leb (called_length version s) (length s) && reads version (take (called_length version s) s))
        (λ t. rw t)
        (λ f. absurd (some (rw f)))

    -- the bytes are a log where those that follow it are
    pub log_rest : Bytes s → is_log version s ≡ is_log version (drop (front_length version s) s)
    unfolding log_bytes
    log_rest bytes =
        let n = front_length version s in
        let f = front_there version s some in
        let ms = messages_in version (drop n s) in
        let cut : n + length (drop n s) ≡ length s = omega (arith, length-drop n s, f.inside) in
        let long : length (take n s ++ log_bytes ms) ≡ n + length (log_bytes ms) = length-append (take n s) (log_bytes ms) ∙ rw (length-take-le n s f.inside) in
        rw (messages_next version s some, read_is_written version (take n s) (bytes_take n s bytes) f.alone, long)
        (by_place (length (log_bytes ms)) (length (drop n s))
        (λ e. rw e (eq-eqb (n + length (drop n s)) (length s) cut ∙ sym (eq-eqb (length (drop n s)) (length (drop n s)) refl)))
        (λ d. ne_eqb (n + length (log_bytes ms)) (length s) (λ e. d (omega (arith, cut, e))) ∙ sym (ne_eqb (length (log_bytes ms)) (length (drop n s)) d)))
