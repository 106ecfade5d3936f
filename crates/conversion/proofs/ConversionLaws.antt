-- LAWS. A message and a log in another version: what stays, what comes back, and how long it is.
use Rattle.std.specs.Prelude.{ℕ, ◌+◌, ◌*◌, ◌/◌, ◌≤◌, ◌≡◌, true, cond, ◌&&◌, length, drop, leb, eqb}
use Rattle.std.proofs.Math.Path.{refl, ap}
use Rattle.std.proofs.Common.{sym, ◌∙◌, arith, length-append}
use Rattle.std.proofs.Math.Bool.{and-false, and-eq-true_iff}
use mathlib.Core.List.{List, [], ◌∷◌, map}
use Rattle.std.proofs.Math.Seq.{take-append_seam}
use borrow.Author.Tests.{ne_eqb, le-leb, lt-leb}
use Rattle.protocol.proofs.Cases.{by_place, by_test, by_le}
use Rattle.protocol.proofs.Tests.{tests}
use Rattle.protocol.specs.Checks.{AllPass, Decided}
use Rattle.protocol.proofs.ChecksLaws.{decided, gives_passes}
use Rattle.wire.specs.Number.{Bytes, int_width}
use Rattle.wire.specs.declared.Message.{Message}
use Rattle.wire.specs.Message.{version_1, version_2, is_version, has_amount, increment_kind, clear_kind, header_in_range, amount_in_range, clear_in_range, body_in_range, in_range, message_bytes, log_bytes, messages_in, messages_from, is_log, WriteOutcome, write_declined, over}
use Rattle.wire.specs.Claims.{message_bytes_length}
use Rattle.wire.specs.Bounds.{BodyBounds, IncrementBounds, bounds}
use Rattle.conversion.specs.Conversion.{in_version, converted, all_by_one, converted_into, to_version_2_checks, to_version_2_on, to_version_1_checks, to_version_1_on}
use Rattle.conversion.specs.ClaimTerms.{AllOf, Same, AllSame, one_if_increment, increments, written_part}
use Rattle.conversion.proofs.LogLaws.{written_is_log, log_is_written}

-- ---- one message

-- by its kind
body_cases : {P : Type 0} {version kind p start amount len : ℕ} → BodyBounds version kind p start amount len
    → (kind ≡ increment_kind → IncrementBounds version p start amount → P) → (kind ≡ clear_kind → amount ≡ 0 → P) → P
body_cases (BodyBounds.increment kind none range) f g = f kind range
body_cases (BodyBounds.clear kind no_p no_start no_amount few) f g = g kind no_amount

-- the amount of a message in range that is by one at the most: 1 where it is an increment and the version has it, else 0
abbrev amount_for : (version kind : ℕ) → ℕ
amount_for version kind = cond (has_amount version && eqb kind increment_kind) 1 0

amount_fits : (version : ℕ) → amount_in_range version (amount_for version increment_kind) ≡ true
unfolding amount_in_range
amount_fits version = by_le version_2 version (λ l. rw (le-leb version_2 version l)) (λ g. rw (lt-leb version_2 version g))

body_fits : (version to kind p start amount len : ℕ) → body_in_range version kind p start amount len ≡ true → body_in_range to kind p start (amount_for to kind) len ≡ true
unfolding clear_in_range
body_fits version to kind p start amount len h =
    by_place kind increment_kind
    (λ e.
    let f = simp and-eq-true_iff at (rw e at h) in
    rw (e, f.0.0, amount_fits to, f.1))
    (λ d.
    let f = simp and-eq-true_iff at (rw (ne_eqb kind increment_kind d) at h) in
    rw (ne_eqb kind increment_kind d, and-false (has_amount to), f.0, f.1.0.0.0, f.1.0.0.1, f.1.1))

pub in_version_fits : (to : ℕ) (m : Message) → is_version to ≡ true → in_range m ≡ true → in_range (in_version to m) ≡ true
unfolding in_range in_version header_in_range
in_version_fits to m right h =
    let f = simp and-eq-true_iff at h in
    let r = simp and-eq-true_iff at right in
    let body = body_fits m.version to m.kind m.p m.start m.amount m.len f.0.0.1 in
    rw (r.0, r.1, f.0.0.0.0.0.1, f.0.0.0.0.1.0, f.0.0.0.0.1.1, f.0.0.0.1, body, f.0.1, f.1)

pub in_version_version : (to : ℕ) (m : Message) → (in_version to m).version ≡ to
unfolding in_version
in_version_version to m = refl

pub in_version_entries : (to : ℕ) (m : Message) → (in_version to m).entries ≡ m.entries
unfolding in_version
in_version_entries to m = refl

amount_back : (m : Message) → in_range m ≡ true → m.amount ≤ 1 → amount_for m.version m.kind ≡ m.amount
amount_back m h one =
    body_cases (bounds m h).body
    (λ kind range.
    by_le version_2 m.version
    (λ l. let some = range.counts.amount_some l in rw (kind, le-leb version_2 m.version l) (omega arith))
    (λ g. rw (lt-leb version_2 m.version g) (sym (range.counts.amount_none g))))
    (λ kind none. rw (kind, and-false (has_amount m.version)) (sym none))

pub in_version_back : (m : Message) (to : ℕ) → in_range m ≡ true → m.amount ≤ 1 → in_version m.version (in_version to m) ≡ m
unfolding in_version
in_version_back m to h one = λ i. record {
  version = m.version;
  kind = m.kind;
  sender = m.sender;
  sequence = m.sequence;
  counter = m.counter;
  p = m.p;
  start = m.start;
  amount = amount_back m h one i;
  len = m.len;
  entries = m.entries;
}

-- in version 1 it is 0
amount_plain : (m : Message) → m.version ≡ version_1 → in_range m ≡ true → leb m.amount 1 ≡ true
amount_plain m plain h =
    body_cases (bounds m h).body
    (λ kind range. rw (range.counts.amount_none (omega arith)))
    (λ kind none. rw none)

-- ---- messages, one by one

-- in version 1 no amount is above 1
by_one_plain : (ms : List Message) → AllOf version_1 ms → all_by_one ms ≡ true
unfolding all_by_one
by_one_plain [] all = refl
by_one_plain (m ∷ ms) all = rw (amount_plain m all.0 all.1, by_one_plain ms all.3)

-- nor in a version that they are taken to
by_one_after : (to : ℕ) (ms : List Message) → all_by_one (map (in_version to) ms) ≡ true
unfolding all_by_one in_version
by_one_after to [] = refl
by_one_after to (m ∷ ms) =
    by_test (has_amount to && eqb m.kind increment_kind)
    (λ t. rw t (by_one_after to ms))
    (λ f. rw f (by_one_after to ms))

module _ (from to : ℕ) where
  pub all_in_version : (ms : List Message) → is_version to ≡ true → AllOf from ms → AllOf to (map (in_version to) ms)
  all_in_version [] right all = tt
  all_in_version (m ∷ ms) right all =
      (in_version_version to m, in_version_fits to m right all.1, ap length (in_version_entries to m) ∙ all.2, all_in_version ms right all.3)

  all_back : (ms : List Message) → AllOf from ms → all_by_one ms ≡ true → map (in_version from) (map (in_version to) ms) ≡ ms
  unfolding all_by_one
  all_back [] all one = refl
  all_back (m ∷ ms) all one =
      let f = simp tests at one in
      let first : in_version from (in_version to m) ≡ m = ap (λ (v : ℕ). in_version v (in_version to m)) (sym all.0) ∙ in_version_back m to all.1 f.0 in
      rw (first, all_back ms all.3 f.1)

in_version_same : (to : ℕ) (m : Message) → Same m (in_version to m)
unfolding in_version
in_version_same to m = record { kind = refl; sender = refl; sequence = refl; counter = refl; p = refl; start = refl; len = refl; entries = refl }

all_same : (to : ℕ) (ms : List Message) → AllSame ms (map (in_version to) ms)
all_same to [] = tt
all_same to (m ∷ ms) = (in_version_same to m, all_same to ms)

-- ---- lengths

length_one_up : (m : Message) → m.version ≡ version_1 → in_range m ≡ true
    → length (message_bytes (in_version version_2 m)) ≡ length (message_bytes m) + int_width * one_if_increment m
unfolding in_version
length_one_up m plain h =
    rw (message_bytes_length m, message_bytes_length (in_version version_2 m))
    (body_cases (bounds m h).body (λ kind range. rw (kind, plain)) (λ kind none. rw kind (omega arith)))

length_one_down : (m : Message) → m.version ≡ version_2 → in_range m ≡ true
    → length (message_bytes (in_version version_1 m)) + int_width * one_if_increment m ≡ length (message_bytes m)
unfolding in_version
length_one_down m counted h =
    rw (message_bytes_length m, message_bytes_length (in_version version_1 m))
    (body_cases (bounds m h).body (λ kind range. rw (kind, counted)) (λ kind none. rw kind (omega arith)))

length_all_up : (ms : List Message) → AllOf version_1 ms → length (log_bytes (map (in_version version_2) ms)) ≡ length (log_bytes ms) + int_width * increments ms
unfolding log_bytes increments
length_all_up [] all = refl
length_all_up (m ∷ ms) all =
    rw (length-append (message_bytes (in_version version_2 m)) (log_bytes (map (in_version version_2) ms)), length-append (message_bytes m) (log_bytes ms))
    (omega (arith, length_one_up m all.0 all.1, length_all_up ms all.3))

length_all_down : (ms : List Message) → AllOf version_2 ms → length (log_bytes (map (in_version version_1) ms)) + int_width * increments ms ≡ length (log_bytes ms)
unfolding log_bytes increments
length_all_down [] all = refl
length_all_down (m ∷ ms) all =
    rw (length-append (message_bytes (in_version version_1 m)) (log_bytes (map (in_version version_1) ms)), length-append (message_bytes m) (log_bytes ms))
    (omega (arith, length_one_down m all.0 all.1, length_all_down ms all.3))

-- an increment of version 1 is nine times as long as what it gains
increment_long : (m : Message) → m.version ≡ version_1 → in_range m ≡ true → 9 * (int_width * one_if_increment m) ≤ length (message_bytes m)
increment_long m plain h =
    rw (message_bytes_length m)
    (body_cases (bounds m h).body (λ kind range. rw (kind, plain) (omega arith)) (λ kind none. rw kind (omega arith)))

increments_long : (ms : List Message) → AllOf version_1 ms → 9 * (int_width * increments ms) ≤ length (log_bytes ms)
unfolding log_bytes increments
increments_long [] all = omega arith
increments_long (m ∷ ms) all =
    rw (length-append (message_bytes m) (log_bytes ms)) (omega (arith, increment_long m all.0 all.1, increments_long ms all.3))

module _ (s : List ℕ) (bytes : Bytes s) where
  pub length_converted_up : is_log version_1 s ≡ true → length (converted version_1 version_2 s) ≡ length s + int_width * increments (messages_in version_1 s)
  unfolding converted
  length_converted_up log =
      let written = log_is_written version_1 s bytes log in length_all_up (messages_in version_1 s) written.0 ∙ rw written.1

  pub converted_up_most : is_log version_1 s ≡ true → length (converted version_1 version_2 s) ≤ length s + length s / 9
  converted_up_most log =
      let written = log_is_written version_1 s bytes log in
      let long : 9 * (int_width * increments (messages_in version_1 s)) ≤ length s = rw written.1 at (increments_long (messages_in version_1 s) written.0) in
      rw (length_converted_up log) (omega (arith, long))

  pub length_converted_down : is_log version_2 s ≡ true → length (converted version_2 version_1 s) + int_width * increments (messages_in version_2 s) ≡ length s
  unfolding converted
  length_converted_down log =
      let written = log_is_written version_2 s bytes log in length_all_down (messages_in version_2 s) written.0 ∙ rw written.1

-- ---- a log in another version

-- what is converted is a log of the other version with the same messages, each by one, and it converts back
record Converts (from to : ℕ) (s : List ℕ) : Type 0 where
  log : is_log to (converted from to s) ≡ true
  same : AllSame (messages_in from s) (messages_in to (converted from to s))
  by_one : all_by_one (messages_in to (converted from to s)) ≡ true
  back : converted to from (converted from to s) ≡ s

converts : (from to : ℕ) (s : List ℕ) → Bytes s → is_version to ≡ true → is_log from s ≡ true → all_by_one (messages_in from s) ≡ true → Converts from to s
unfolding converted
converts from to s bytes right log one =
    let ms = messages_in from s in
    let read = log_is_written from s bytes log in
    let written = written_is_log to (map (in_version to) ms) (all_in_version from to ms right read.0) in
    record {
      log = written.0;
      same = rw written.1 (all_same to ms);
      by_one = rw written.1 (by_one_after to ms);
      back = rw (written.1, all_back from to ms read.0 one) read.1;
    }

-- ---- the calls

pub empty_converts : (out : List ℕ) → (to_version_2_on [] out ≡ record { answer = record { number = 0; length = 0 }; out = out })
    × (to_version_1_on [] out ≡ record { answer = record { number = 0; length = 0 }; out = out })
unfolding to_version_2_on to_version_1_on converted messages_from log_bytes all_by_one
empty_converts out = let room : leb 0 (length out) ≡ true = le-leb 0 (length out) (omega arith) in (rw room, rw room)

written_is : (from to : ℕ) (s out : List ℕ) → written_part (converted_into from to s out) ≡ converted from to s
written_is from to s out = take-append_seam (converted from to s) (drop (length (converted from to s)) out)

-- accepted: the log is one, and this is what is done
module _ (s out : List ℕ) where
  up_decided : Decided (λ o. o.answer.number) (λ n. write_declined n out) (to_version_2_checks s out) (converted_into version_1 version_2 s out) (to_version_2_on s out)
  unfolding to_version_2_on
  up_decided = decided (λ o. o.answer.number) _ (λ n. refl) _ refl (to_version_2_checks s out) refl

  down_decided : Decided (λ o. o.answer.number) (λ n. write_declined n out) (to_version_1_checks s out) (converted_into version_2 version_1 s out) (to_version_1_on s out)
  unfolding to_version_1_on
  down_decided = decided (λ o. o.answer.number) _ (λ n. refl) _ refl (to_version_1_checks s out) refl

  -- where there is room, a log of version 2 by one is written
  pub down_does : is_log version_2 s ≡ true → all_by_one (messages_in version_2 s) ≡ true → length (converted version_2 version_1 s) ≤ length out
      → to_version_1_on s out ≡ converted_into version_2 version_1 s out
  unfolding to_version_1_on
  down_does log one room = rw (log, one, le-leb (length (converted version_2 version_1 s)) (length out) room)

  pub up_does : is_log version_1 s ≡ true → length (converted version_1 version_2 s) ≤ length out → to_version_2_on s out ≡ converted_into version_1 version_2 s out
  unfolding to_version_2_on
  up_does log room = rw (log, le-leb (length (converted version_1 version_2 s)) (length out) room)

-- how much room is enough
pub up_accepts : (s out : List ℕ) → Bytes s → is_log version_1 s ≡ true → length s + length s / 9 ≤ length out → to_version_2_on s out ≡ converted_into version_1 version_2 s out
up_accepts s out bytes log room = up_does s out log (omega (arith, converted_up_most s bytes log))

pub down_accepts : (s out : List ℕ) → Bytes s → is_log version_2 s ≡ true → all_by_one (messages_in version_2 s) ≡ true → length s ≤ length out
    → to_version_1_on s out ≡ converted_into version_2 version_1 s out
down_accepts s out bytes log one room = down_does s out log one (omega (arith, length_converted_down s bytes log))

module _ (s out : List ℕ) (bytes : Bytes s) (accepted : (to_version_2_on s out).answer.number ≡ 0) where
  up_passed : AllPass (to_version_2_checks s out)
  up_passed = gives_passes (to_version_2_checks s out) refl (((up_decided s out).exact 0).0 accepted)

  up_done : to_version_2_on s out ≡ converted_into version_1 version_2 s out
  up_done = (up_decided s out).accepted accepted

  up_written : written_part (to_version_2_on s out) ≡ converted version_1 version_2 s
  up_written = ap written_part up_done ∙ written_is version_1 version_2 s out

  up_converts : Converts version_1 version_2 s
  up_converts =
      let log = up_passed.0 in
      converts version_1 version_2 s bytes refl log (by_one_plain (messages_in version_1 s) (log_is_written version_1 s bytes log).0)

  pub same_messages_up : let t = written_part (to_version_2_on s out) in
      (is_log version_2 t ≡ true) × AllSame (messages_in version_1 s) (messages_in version_2 t) × (all_by_one (messages_in version_2 t) ≡ true)
  same_messages_up = let c = up_converts in rw up_written (c.log, c.same, c.by_one)

  pub length_up : (to_version_2_on s out).answer.length ≡ length s + int_width * increments (messages_in version_1 s)
  length_up = ap (λ (o : WriteOutcome). o.answer.length) up_done ∙ length_converted_up s bytes up_passed.0

module _ (s out : List ℕ) (bytes : Bytes s) (accepted : (to_version_1_on s out).answer.number ≡ 0) where
  down_passed : AllPass (to_version_1_checks s out)
  down_passed = gives_passes (to_version_1_checks s out) refl (((down_decided s out).exact 0).0 accepted)

  down_done : to_version_1_on s out ≡ converted_into version_2 version_1 s out
  down_done = (down_decided s out).accepted accepted

  down_written : written_part (to_version_1_on s out) ≡ converted version_2 version_1 s
  down_written = ap written_part down_done ∙ written_is version_2 version_1 s out

  down_converts : Converts version_2 version_1 s
  down_converts = converts version_2 version_1 s bytes refl down_passed.0 down_passed.1.0

  pub same_messages_down : let t = written_part (to_version_1_on s out) in (is_log version_1 t ≡ true) × AllSame (messages_in version_2 s) (messages_in version_1 t)
  same_messages_down = let c = down_converts in rw down_written (c.log, c.same)

  pub length_down : (to_version_1_on s out).answer.length + int_width * increments (messages_in version_2 s) ≡ length s
  length_down = ap (λ (o : WriteOutcome). o.answer.length + int_width * increments (messages_in version_2 s)) down_done ∙ length_converted_down s bytes down_passed.0

-- ---- there and back

pub up_then_down : (s out again : List ℕ) → Bytes s → (to_version_2_on s out).answer.number ≡ 0 → length s ≤ length again
    → to_version_1_on (written_part (to_version_2_on s out)) again ≡ record { answer = record { number = 0; length = length s }; out = over s again }
up_then_down s out again bytes accepted room =
    let c = up_converts s out bytes accepted in
    rw (up_written s out bytes accepted, down_does (converted version_1 version_2 s) again c.log c.by_one (rw c.back room), c.back)

pub down_then_up : (s out again : List ℕ) → Bytes s → (to_version_1_on s out).answer.number ≡ 0 → length s ≤ length again
    → to_version_2_on (written_part (to_version_1_on s out)) again ≡ record { answer = record { number = 0; length = length s }; out = over s again }
down_then_up s out again bytes accepted room =
    let c = down_converts s out bytes accepted in
    rw (down_written s out bytes accepted, up_does (converted version_2 version_1 s) again c.log (rw c.back room), c.back)
