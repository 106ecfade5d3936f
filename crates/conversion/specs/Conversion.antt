-- DEFINITIONS. A log of messages in the other version, and the two calls that convert one (SPECIFICATION 2.1). What a log is, and its messages, is in `Message` of wire.
use Rattle.std.specs.Prelude.{ℕ, List, [], ◌∷◌, map, Bool, true, cond, ◌&&◌, length, leb, eqb}
use Rattle.protocol.specs.Limits.{short_output, unreadable, above_one}
use Rattle.protocol.specs.Checks.{Check, or_else, checked}
use Rattle.wire.specs.declared.Message.{Message}
use Rattle.wire.specs.Message.{version_1, version_2, has_amount, increment_kind, log_bytes, messages_in, is_log, WriteOutcome, write_declined, over}

-- a message in another version: "To version 2, an increment gains w = 1 .. a clear changes its version only."; "To version 1, an increment loses its w .. a clear changes its version only."
unfoldable pub in_version : ℕ → Message → Message
in_version version m = record {
  version = version;
  kind = m.kind;
  sender = m.sender;
  sequence = m.sequence;
  counter = m.counter;
  p = m.p;
  start = m.start;
  amount = cond (has_amount version && eqb m.kind increment_kind) 1 0;
  len = m.len;
  entries = m.entries;
}

-- the bytes of a log's messages in another version
unfoldable pub converted : (from to : ℕ) → List ℕ → List ℕ
converted from to s = log_bytes (map (in_version to) (messages_in from s))

-- "every w is 1": none is above, and a clear has none
unfoldable pub all_by_one : List Message → Bool
all_by_one [] = true
all_by_one (m ∷ ms) = leb m.amount 1 && all_by_one ms

-- ---- the calls

-- "Its length is returned .. Output past it keeps its bytes."
abbrev pub converted_into : (from to : ℕ) → List ℕ → List ℕ → WriteOutcome
converted_into from to s out = record { answer = record { number = 0; length = length (converted from to s) }; out = over (converted from to s) out }

-- to version 2: "6, 5"
abbrev pub to_version_2_checks : List ℕ → List ℕ → List Check
to_version_2_checks s out =
    or_else (is_log version_1 s) unreadable ∷ or_else (leb (length (converted version_1 version_2 s)) (length out)) short_output ∷ []

unfoldable pub to_version_2_on : List ℕ → List ℕ → WriteOutcome
to_version_2_on s out = checked (λ n. write_declined n out) (to_version_2_checks s out) (converted_into version_1 version_2 s out)

-- to version 1: "6, 17, 5"
abbrev pub to_version_1_checks : List ℕ → List ℕ → List Check
to_version_1_checks s out =
    or_else (is_log version_2 s) unreadable
    ∷ or_else (all_by_one (messages_in version_2 s)) above_one ∷ or_else (leb (length (converted version_2 version_1 s)) (length out)) short_output ∷ []

unfoldable pub to_version_1_on : List ℕ → List ℕ → WriteOutcome
to_version_1_on s out = checked (λ n. write_declined n out) (to_version_1_checks s out) (converted_into version_2 version_1 s out)
