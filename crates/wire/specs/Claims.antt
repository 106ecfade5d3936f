-- CLAIMS. What a user of the crate relies on, one sentence each, of messages of every version; the proofs are cited from the laws.
use Rattle.std.specs.Prelude.{◌≡◌, ℕ, ◌<◌, ◌≤◌, true, ◌≢◌, List, ◌++◌, length, take, refl}
use Rattle.std.proofs.Common.{sym, ap, ◌∙◌, arith}
use Rattle.protocol.specs.Limits.{most_cards}
use Rattle.protocol.specs.Checks.{Decided}
use Rattle.protocol.proofs.ChecksLaws.{decided}
use Rattle.protocol.specs.declared.ClearEntry.{ClearEntry}
use Rattle.wire.specs.Number.{Bytes}
use Rattle.wire.specs.Message.{Message, version_1, version_2, clear_length, message_bytes, message_length, increment_message, clear_message, in_range, called_length, message_at, reads, version_in, read_declined, read_checks, read_message, front_length, write_declined, write_checks, written, write_message}
use Rattle.wire.specs.MessageParts.{behind_header, behind_increment, behind_amount, behind_entry}
use Rattle.wire.specs.WriteLaws.{length_message_bytes, increment_message_length, clear_message_length}
use Rattle.wire.specs.RoundTrips as trips

-- ---- READING AND WRITING

-- A message in range that is written reads as itself, whatever its version.
pub written_reads : (m : Message) → length m.entries ≡ most_cards → in_range m ≡ true → read_message (message_bytes m) ≡ record { number = 0; message = m }
written_reads = trips.message_read

-- Bytes that read are those that the message read from them is written as.
pub read_is_written : (version : ℕ) (s : List ℕ) → Bytes s → reads version s ≡ true → message_bytes (message_at version s) ≡ s
read_is_written = trips.message_back

-- The message that bytes read as is of the version that they read in and in range, and its array is full: it can be written again.
pub read_is_in_range : (version : ℕ) (s : List ℕ) → reads version s ≡ true
    → ((message_at version s).version ≡ version) × (in_range (message_at version s) ≡ true) × (length (message_at version s).entries ≡ most_cards)
read_is_in_range version s h = (trips.message_version version s, (trips.readable version s h).fits, trips.message_full version s h)

-- Two byte strings that read as the same message are the same.
pub one_reading : (s t : List ℕ) (m : Message) → Bytes s → Bytes t → read_message s ≡ record { number = 0; message = m } → read_message t ≡ record { number = 0; message = m } → s ≡ t
one_reading s t m a b x y =
    let from_s = trips.read_as s m x in
    let from_t = trips.read_as t m y in
    sym (trips.message_back m.version s a from_s.0) ∙ ap message_bytes (from_s.1 ∙ sym from_t.1) ∙ trips.message_back m.version t b from_t.0

-- ---- VERSIONS

-- A call that takes one version and the reader of all of them agree: bytes that read in a version read as that version's message, and bytes that read as a
-- message read in the version that it says.
pub read_in_version : (version : ℕ) (s : List ℕ) → reads version s ≡ true → read_message s ≡ record { number = 0; message = message_at version s }
read_in_version = trips.read_in

pub version_of_read : (s : List ℕ) (m : Message) → read_message s ≡ record { number = 0; message = m } → (reads m.version s ≡ true) × (message_at m.version s ≡ m)
version_of_read = trips.read_as

-- No bytes read in two versions; and what reads in one version and what reads in another never read as the same message.
pub one_version : (v w : ℕ) (s : List ℕ) → reads v s ≡ true → reads w s ≡ true → v ≡ w
one_version = trips.one_version

pub versions_apart : (v w : ℕ) (s t : List ℕ) → v ≢ w → reads v s ≡ true → reads w t ≡ true → message_at v s ≢ message_at w t
versions_apart v w s t apart a b same = apart (sym (trips.message_version v s) ∙ ap (λ (m : Message). m.version) same ∙ trips.message_version w t)

-- ---- LENGTHS

-- A message's bytes are as many as its version, its kind and its entries say.
pub message_bytes_length : (m : Message) → length (message_bytes m) ≡ message_length m
message_bytes_length = length_message_bytes

-- An increment has 36 bytes in version 1, and 40 in version 2.
pub increment_bytes_length : (sender sequence counter p start amount : ℕ)
    → (length (message_bytes (increment_message version_1 sender sequence counter p start amount)) ≡ 36)
    × (length (message_bytes (increment_message version_2 sender sequence counter p start amount)) ≡ 40)
increment_bytes_length sender sequence counter p start amount = (
  length_message_bytes (increment_message version_1 sender sequence counter p start amount) ∙ increment_message_length version_1 sender sequence counter p start amount,
  length_message_bytes (increment_message version_2 sender sequence counter p start amount) ∙ increment_message_length version_2 sender sequence counter p start amount,
)

-- A clear of e entries has 28 + 20e bytes, in every version.
pub clear_bytes_length : (version sender sequence counter : ℕ) (es : List ClearEntry) → length (message_bytes (clear_message version sender sequence counter es)) ≡ clear_length (length es)
clear_bytes_length version sender sequence counter es =
    length_message_bytes (clear_message version sender sequence counter es) ∙ clear_message_length version sender sequence counter es

-- ---- THE FRONT OF LONGER BYTES

-- Bytes that start with a message's, whatever follows, start with a message of its version and its length.
pub front_of_message : (m : Message) (rest : List ℕ) → length m.entries ≡ most_cards → in_range m ≡ true
    → (front_length m.version (message_bytes m ++ rest) ≡ message_length m) × (called_length m.version (message_bytes m ++ rest) ≡ message_length m)
front_of_message m rest full h = (trips.front_message m rest full h, (trips.message_stands m rest full h).called)

-- To another version they do not: a message of version 1 in a log "is bytes that do not read".
pub front_of_other_version : (version : ℕ) (m : Message) (rest : List ℕ) → length m.entries ≡ most_cards → in_range m ≡ true → version ≢ m.version
    → front_length version (message_bytes m ++ rest) ≡ 0
front_of_other_version = trips.front_other_version

-- What a longer list starts with reads when it is taken alone.
pub front_reads : (version : ℕ) (s : List ℕ) → 0 < front_length version s → (reads version (take (front_length version s) s) ≡ true) × (front_length version s ≤ length s)
front_reads = trips.front_readable

-- Bytes that read have the length that they ask for.
pub called_of_read : (version : ℕ) (s : List ℕ) → reads version s ≡ true → called_length version s ≡ length s
called_of_read version s h = sym (trips.readable version s h).exact

-- The position that bytes are read from only moves forward: behind a header, the rest of an increment and an entry it is above the one that the part began at, whatever the bytes; behind an amount it is not below.
pub position_rises : (version at : ℕ) → (at < behind_header at) × (at < behind_increment at) × (at ≤ behind_amount version at) × (at < behind_entry at)
position_rises version at = (omega arith, omega arith, omega arith, omega arith)

-- ---- EVERY REFUSAL IS EXACT

-- Reading a message alone gives 6 exactly where the bytes do not read, with zeros; otherwise the message.
pub read_message_exact : (s : List ℕ) → Decided (λ r. r.number) read_declined (read_checks s) (record { number = 0; message = message_at (version_in s) s }) (read_message s)
unfolding read_message
read_message_exact s = decided (λ r. r.number) read_declined (λ n. refl) _ refl (read_checks s) refl

-- Writing a message alone gives 6, 5 in that order, each exactly where its cause holds, and then leaves every byte; otherwise it writes the message.
pub write_message_exact : (m : Message) (out : List ℕ)
    → Decided (λ o. o.answer.number) (λ n. write_declined n out) (write_checks m out) (written m out) (write_message m out)
unfolding write_message
write_message_exact m out = decided (λ o. o.answer.number) _ (λ n. refl) _ refl (write_checks m out) refl
