-- CLAIMS. What a user of the two converters relies on, one sentence each; the proofs are cited from the laws.
-- `s` is the log that is handed in, `out` the output, both any lists; `Bytes s` says that the log is of bytes, as every buffer is.
use Rattle.std.specs.Prelude.{ℕ, ◌+◌, ◌*◌, ◌/◌, ◌≤◌, ◌≡◌, refl, List, [], true, length}
use Rattle.protocol.specs.Checks.{Decided}
use Rattle.protocol.proofs.ChecksLaws.{decided}
use Rattle.wire.specs.Number.{Bytes, int_width}
use Rattle.wire.specs.declared.Message.{Message}
use Rattle.wire.specs.Message.{version_1, version_2, log_bytes, messages_in, is_log, write_declined, over}
use Rattle.conversion.specs.Conversion.{converted_into, all_by_one, to_version_2_checks, to_version_2_on, to_version_1_checks, to_version_1_on}
use Rattle.conversion.specs.ClaimTerms.{AllOf, AllSame, increments, written_part}
use Rattle.conversion.proofs.LogLaws as logs
use Rattle.conversion.proofs.ConversionLaws as laws

-- ---- WHAT A LOG IS

-- The bytes of messages of one version, whichever and however many, written one after the other, are a log of that version, and these are its messages.
pub written_is_log : (version : ℕ) (ms : List Message) → AllOf version ms → (is_log version (log_bytes ms) ≡ true) × (messages_in version (log_bytes ms) ≡ ms)
written_is_log = logs.written_is_log

-- No other bytes are: a log is its messages, of that version and in range, written one after the other.
pub log_is_written : (version : ℕ) (s : List ℕ) → Bytes s → is_log version s ≡ true → AllOf version (messages_in version s) × (log_bytes (messages_in version s) ≡ s)
log_is_written = logs.log_is_written

-- ---- EVERY REFUSAL IS EXACT

-- To version 2 gives 6, 5 in that order, each exactly where its cause holds, and then leaves every byte; otherwise it writes the converted log.
pub to_version_2_exact : (s out : List ℕ)
    → Decided (λ o. o.answer.number) (λ n. write_declined n out) (to_version_2_checks s out) (converted_into version_1 version_2 s out) (to_version_2_on s out)
unfolding to_version_2_on
to_version_2_exact s out = decided (λ o. o.answer.number) _ (λ n. refl) _ refl (to_version_2_checks s out) refl

-- To version 1 gives 6, 17, 5 likewise.
pub to_version_1_exact : (s out : List ℕ)
    → Decided (λ o. o.answer.number) (λ n. write_declined n out) (to_version_1_checks s out) (converted_into version_2 version_1 s out) (to_version_1_on s out)
unfolding to_version_1_on
to_version_1_exact s out = decided (λ o. o.answer.number) _ (λ n. refl) _ refl (to_version_1_checks s out) refl

-- An empty log converts to an empty one, whatever the output.
pub empty_converts : (out : List ℕ) → (to_version_2_on [] out ≡ record { answer = record { number = 0; length = 0 }; out = out })
    × (to_version_1_on [] out ≡ record { answer = record { number = 0; length = 0 }; out = out })
empty_converts = laws.empty_converts

-- Neither only declines. To version 2, every log of version 1 converts into an output that is a ninth longer than it, rounded down;
pub up_accepts : (s out : List ℕ) → Bytes s → is_log version_1 s ≡ true → length s + length s / 9 ≤ length out → to_version_2_on s out ≡ converted_into version_1 version_2 s out
up_accepts = laws.up_accepts

-- to version 1, every log of version 2 with no amount above 1 converts into one that is as long as it.
pub down_accepts : (s out : List ℕ) → Bytes s → is_log version_2 s ≡ true → all_by_one (messages_in version_2 s) ≡ true → length s ≤ length out
    → to_version_1_on s out ≡ converted_into version_2 version_1 s out
down_accepts = laws.down_accepts

-- ---- THE SAME MESSAGES

-- What an accepted call to version 2 writes is a log of version 2, with the same messages one by one, every increment by one.
pub same_messages_up : (s out : List ℕ) → Bytes s → (to_version_2_on s out).answer.number ≡ 0
    → let t = written_part (to_version_2_on s out) in
    (is_log version_2 t ≡ true) × AllSame (messages_in version_1 s) (messages_in version_2 t) × (all_by_one (messages_in version_2 t) ≡ true)
same_messages_up = laws.same_messages_up

-- What an accepted call to version 1 writes is a log of version 1, with the same messages one by one.
pub same_messages_down : (s out : List ℕ) → Bytes s → (to_version_1_on s out).answer.number ≡ 0
    → let t = written_part (to_version_1_on s out) in (is_log version_1 t ≡ true) × AllSame (messages_in version_2 s) (messages_in version_1 t)
same_messages_down = laws.same_messages_down

-- ---- THERE AND BACK

-- A log that converts to version 2 comes back, byte for byte, when what was written converts to version 1: into any output that has room for it, past which nothing changes.
pub up_then_down : (s out again : List ℕ) → Bytes s → (to_version_2_on s out).answer.number ≡ 0 → length s ≤ length again
    → to_version_1_on (written_part (to_version_2_on s out)) again ≡ record { answer = record { number = 0; length = length s }; out = over s again }
up_then_down = laws.up_then_down

-- And one that converts to version 1 when what was written converts to version 2.
pub down_then_up : (s out again : List ℕ) → Bytes s → (to_version_1_on s out).answer.number ≡ 0 → length s ≤ length again
    → to_version_2_on (written_part (to_version_1_on s out)) again ≡ record { answer = record { number = 0; length = length s }; out = over s again }
down_then_up = laws.down_then_up

-- ---- LENGTHS

-- The length written is 4 bytes more for each increment on the way to version 2, and 4 less on the way to version 1; nothing else changes it.
pub length_up : (s out : List ℕ) → Bytes s → (to_version_2_on s out).answer.number ≡ 0
    → (to_version_2_on s out).answer.length ≡ length s + int_width * increments (messages_in version_1 s)
length_up = laws.length_up

pub length_down : (s out : List ℕ) → Bytes s → (to_version_1_on s out).answer.number ≡ 0
    → (to_version_1_on s out).answer.length + int_width * increments (messages_in version_2 s) ≡ length s
length_down = laws.length_down
