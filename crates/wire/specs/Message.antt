-- DEFINITIONS. One message, of any version: its bytes, the ranges of its fields, what bytes read as and what writing it leaves (SPECIFICATION 2).
-- A message has one form only as a struct: what its version and its kind do not use is 0, and so are the entries past its length.
use Rattle.std.specs.Prelude.{ℕ, zero, suc, ◌+◌, ◌-◌, ◌*◌, Bool, true, cond, ◌&&◌, ◌||◌, List, [], ◌∷◌, ◌++◌, length, take, drop, replicate, ◌==◌, nat_le, nat_lt, slice_index_or}
use Rattle.protocol.specs.Limits.{MAX, most_cards, most_counters, most_amount, short_output, unreadable}
use Rattle.protocol.specs.Checks.{checked, or_else, Check}
use Rattle.protocol.specs.declared.ClearEntry.{ClearEntry}
use Rattle.wire.specs.Number.{int_width, hyper_width, unsigned_int, unsigned_hyper, int_at, hyper_at}
pub use Rattle.wire.specs.declared.Message.{Message}
pub use Rattle.wire.specs.declared.Reading.{Reading}
pub use Rattle.wire.specs.declared.Written.{Written}

-- ---- the versions: nothing else tells one from another

-- "version (unsigned int, 1 or 2)"
abbrev pub version_1 : ℕ
version_1 = 1

abbrev pub version_2 : ℕ
version_2 = 2

abbrev pub is_version : ℕ → Bool
is_version version = nat_le version_1 version && nat_le version version_2

-- "From version 2 on an increment has its amount."
abbrev pub has_amount : ℕ → Bool
has_amount version = nat_le version_2 version

-- "counter (unsigned int, 0 to 63)": in every version it is below this
abbrev pub counter_bound : ℕ → ℕ
counter_bound version = most_counters

-- "kind (enum, 1 increment, 2 clear)"
abbrev pub increment_kind : ℕ
increment_kind = 1

abbrev pub clear_kind : ℕ
clear_kind = 2

-- ---- lengths in bytes

abbrev pub header_length : ℕ
header_length = 24

-- what every increment has behind its header: p and start
abbrev pub increment_body_length : ℕ
increment_body_length = 12

-- what the amount takes, where the version has it
abbrev pub amount_length : ℕ → ℕ
amount_length version = cond (has_amount version) int_width 0

-- "Increment: .. 36 bytes in version 1, 40 in version 2."
abbrev pub increment_length : ℕ → ℕ
increment_length version = header_length + increment_body_length + amount_length version

abbrev pub entry_length : ℕ
entry_length = 20

-- "Clear: .. 28 + 20e bytes.": with e entries, behind the header and the length word
abbrev pub clear_length : ℕ → ℕ
clear_length e = 28 + entry_length * e

abbrev pub shortest_message : ℕ
shortest_message = clear_length 0

abbrev pub longest_message : ℕ
longest_message = clear_length most_cards

-- of a message of a version and a kind, with e entries if it is a clear
abbrev pub length_of : (version kind e : ℕ) → ℕ
length_of version kind e = cond (kind == clear_kind) (clear_length e) (increment_length version)

-- ---- where the fields stand, the version first: each where the one before it ends

abbrev pub kind_at : ℕ
kind_at = int_width

abbrev pub sender_at : ℕ
sender_at = kind_at + int_width

abbrev pub sequence_at : ℕ
sequence_at = sender_at + int_width

abbrev pub counter_at : ℕ
counter_at = sequence_at + hyper_width

-- behind the header: of an increment its p, its start and its amount, of a clear its length word and its entries
abbrev pub p_at : ℕ
p_at = header_length

abbrev pub start_at : ℕ
start_at = p_at + hyper_width

abbrev pub amount_at : ℕ
amount_at = start_at + int_width

abbrev pub count_at : ℕ
count_at = header_length

abbrev pub first_entry_at : ℕ
first_entry_at = clear_length 0

-- within an entry, the card first
abbrev pub entry_p_at : ℕ
entry_p_at = int_width

abbrev pub entry_c_at : ℕ
entry_c_at = entry_p_at + hyper_width

-- ---- the bytes: "Big-endian, fields in this order"

-- "version (unsigned int .. kind (enum .. sender (unsigned int .. sequence (unsigned hyper .. counter (unsigned int"
abbrev pub header_bytes_of : (version kind sender sequence counter : ℕ) → List ℕ
header_bytes_of version kind sender sequence counter =
    unsigned_int version ++ unsigned_int kind ++ unsigned_int sender ++ unsigned_hyper sequence ++ unsigned_int counter

unfoldable pub header_bytes : Message → List ℕ
header_bytes m = header_bytes_of m.version m.kind m.sender m.sequence m.counter

-- "From version 2 on an increment has its amount."
abbrev pub amount_bytes : (version amount : ℕ) → List ℕ
amount_bytes version amount = cond (has_amount version) (unsigned_int amount) []

-- "Increment: p (unsigned hyper .. start (bool .. amount (unsigned int"
unfoldable pub increment_bytes : Message → List ℕ
increment_bytes m = header_bytes m ++ unsigned_hyper m.p ++ unsigned_int m.start ++ amount_bytes m.version m.amount

abbrev pub no_entry : ClearEntry
no_entry = record { card = 0; p = 0; c = 0 }

-- "Each entry is card (unsigned int .. p and c (unsigned hypers"
unfoldable pub entry_bytes : ClearEntry → List ℕ
entry_bytes e = unsigned_int e.card ++ unsigned_hyper e.p ++ unsigned_hyper e.c

-- the first `count` entries
unfoldable pub entries_bytes : ℕ → List ClearEntry → List ℕ
entries_bytes zero es = []
entries_bytes (suc count) es = entries_bytes count es ++ entry_bytes (slice_index_or es count no_entry)

-- "Clear: a variable array of e entries .. its length word first .. 28 + 20e bytes."
unfoldable pub clear_bytes : Message → List ℕ
clear_bytes m = header_bytes m ++ unsigned_int m.len ++ entries_bytes m.len m.entries

unfoldable pub message_bytes : Message → List ℕ
message_bytes m = cond (m.kind == clear_kind) (clear_bytes m) (increment_bytes m)

abbrev pub message_length : Message → ℕ
message_length m = length_of m.version m.kind m.len

-- ---- the ranges

abbrev pub from_one_to : ℕ → ℕ → Bool
from_one_to most x = nat_le 1 x && nat_le x most

-- "sender (unsigned int, 0 to 11) .. sequence (unsigned hyper, 1 to MAX .. counter (unsigned int, 0 to 63)"
unfoldable pub header_in_range : (version sender sequence counter : ℕ) → Bool
header_in_range version sender sequence counter =
    is_version version && nat_lt sender most_cards && from_one_to MAX sequence && nat_lt counter (counter_bound version)

-- "amount (unsigned int, 1 to 65,535)", where the version has it
unfoldable pub amount_in_range : (version amount : ℕ) → Bool
amount_in_range version amount = cond (has_amount version) (from_one_to most_amount amount) (amount == 0)

-- "p (unsigned hyper, 1 to MAX), start (bool, 0 or 1)"
unfoldable pub increment_in_range : (p start : ℕ) → Bool
increment_in_range p start = from_one_to MAX p && nat_le start 1

-- "e from 0 to 12"
unfoldable pub clear_in_range : (p start amount len : ℕ) → Bool
clear_in_range p start amount len = p == 0 && start == 0 && amount == 0 && nat_le len most_cards

-- behind the header, by the kind
abbrev pub body_in_range : (version kind p start amount len : ℕ) → Bool
body_in_range version kind p start amount len =
    cond (kind == increment_kind)
    (increment_in_range p start && amount_in_range version amount && len == 0)
    (kind == clear_kind && clear_in_range p start amount len)

-- "card (unsigned int, 0 to 11), p and c (unsigned hypers, 1 <= p <= c <= MAX)"; the card is `low` or above
unfoldable pub entry_in_range : ℕ → ClearEntry → Bool
entry_in_range low e = nat_le low e.card && nat_lt e.card most_cards && nat_le 1 e.p && nat_le e.p e.c && nat_le e.c MAX

-- "Cards rise strictly."
unfoldable pub entries_in_range : ℕ → List ClearEntry → Bool
entries_in_range low [] = true
entries_in_range low (e ∷ es) = entry_in_range low e && entries_in_range (e.card + 1) es

-- entries past the length
abbrev pub entry_unused : ClearEntry → Bool
entry_unused e = e.card == 0 && e.p == 0 && e.c == 0

unfoldable pub unused : List ClearEntry → Bool
unused [] = true
unused (e ∷ es) = entry_unused e && unused es

unfoldable pub in_range : Message → Bool
in_range m =
    header_in_range m.version m.sender m.sequence m.counter
    && body_in_range m.version m.kind m.p m.start m.amount m.len
    && entries_in_range 0 (take m.len m.entries)
    && unused (drop m.len m.entries)

-- ---- reading

-- the two kinds of message of a version, from their fields
unfoldable pub increment_message : (version sender sequence counter p start amount : ℕ) → Message
increment_message version sender sequence counter p start amount = record {
  version = version;
  kind = increment_kind;
  sender = sender;
  sequence = sequence;
  counter = counter;
  p = p;
  start = start;
  amount = amount;
  len = 0;
  entries = replicate most_cards no_entry;
}

unfoldable pub clear_message : (version sender sequence counter : ℕ) → List ClearEntry → Message
clear_message version sender sequence counter es = record {
  version = version;
  kind = clear_kind;
  sender = sender;
  sequence = sequence;
  counter = counter;
  p = 0;
  start = 0;
  amount = 0;
  len = length es;
  entries = es ++ replicate (most_cards - length es) no_entry;
}

abbrev pub entry_at : List ℕ → ℕ → ClearEntry
entry_at s at = record { card = int_at s at; p = hyper_at s (at + entry_p_at); c = hyper_at s (at + entry_c_at) }

-- `count` entries, one after the other from `at` on
unfoldable pub entries_at : ℕ → List ℕ → ℕ → List ClearEntry
entries_at zero s at = []
entries_at (suc count) s at = entry_at s at ∷ entries_at count s (at + entry_length)

-- the amount that stands at `at`, 0 where the version has none
abbrev pub amount_in : ℕ → List ℕ → ℕ → ℕ
amount_in version s at = cond (has_amount version) (int_at s at) 0

-- the increment and the clear of a version whose fields stand in the bytes, whatever the kind and the ranges
abbrev pub increment_in : ℕ → List ℕ → Message
increment_in version s =
    increment_message version (int_at s sender_at) (hyper_at s sequence_at) (int_at s counter_at) (hyper_at s p_at) (int_at s start_at) (amount_in version s amount_at)

abbrev pub clear_in : ℕ → List ℕ → Message
clear_in version s =
    clear_message version (int_at s sender_at) (hyper_at s sequence_at) (int_at s counter_at) (entries_at (int_at s count_at) s first_entry_at)

-- the one that the kind asks for
unfoldable pub message_at : ℕ → List ℕ → Message
message_at version s = cond (int_at s kind_at == clear_kind) (clear_in version s) (increment_in version s)

-- the length that the version, the kind and the length word ask for
unfoldable pub called_length : ℕ → List ℕ → ℕ
called_length version s = length_of version (int_at s kind_at) (int_at s count_at)

-- whether the bytes are a message of this version: "Bytes read only if every field is in range and the length is exact."
unfoldable pub reads : ℕ → List ℕ → Bool
reads version s =
    (int_at s 0 == version)
    && (int_at s kind_at == increment_kind || int_at s kind_at == clear_kind)
    && length s == called_length version s
    && in_range (message_at version s)

abbrev pub no_message : Message
no_message = record {
  version = 0;
  kind = 0;
  sender = 0;
  sequence = 0;
  counter = 0;
  p = 0;
  start = 0;
  amount = 0;
  len = 0;
  entries = replicate most_cards no_entry;
}

abbrev pub read_declined : ℕ → Reading
read_declined number = record { number = number; message = no_message }

-- the version that the bytes name
abbrev pub version_in : List ℕ → ℕ
version_in s = int_at s 0

-- reading one alone, in the version that it names: "6"
abbrev pub read_checks : List ℕ → List Check
read_checks s = or_else (reads (version_in s) s) unreadable ∷ []

unfoldable pub read_message : List ℕ → Reading
read_message s = checked read_declined (read_checks s) (record { number = 0; message = message_at (version_in s) s })

-- the length of the message of this version that a longer list of bytes starts with, 0 where it starts with none that reads
unfoldable pub front_length : ℕ → List ℕ → ℕ
front_length version s =
    cond (nat_le (called_length version s) (length s) && reads version (take (called_length version s) s)) (called_length version s) 0

-- ---- writing

-- what a call that writes answers, and what it leaves in the caller's bytes
pub record WriteOutcome : Type 0 where
  pub answer : Written
  pub out : List ℕ

abbrev pub write_declined : ℕ → List ℕ → WriteOutcome
write_declined number out = record { answer = record { number = number; length = 0 }; out = out }

-- "Output past the message keeps its bytes."
abbrev pub over : List ℕ → List ℕ → List ℕ
over bytes out = bytes ++ drop (length bytes) out

-- writing one alone: "6, 5"
abbrev pub write_checks : Message → List ℕ → List Check
write_checks m out = or_else (in_range m) unreadable ∷ or_else (nat_le (message_length m) (length out)) short_output ∷ []

abbrev pub written : Message → List ℕ → WriteOutcome
written m out = record { answer = record { number = 0; length = message_length m }; out = over (message_bytes m) out }

unfoldable pub write_message : Message → List ℕ → WriteOutcome
write_message m out =
    checked (λ number. write_declined number out) (write_checks m out) (written m out)

-- ---- a log: messages one after the other

unfoldable pub log_bytes : List Message → List ℕ
log_bytes [] = []
log_bytes (m ∷ ms) = message_bytes m ++ log_bytes ms

-- the messages of a version that the bytes begin with, `most` of them at the most
unfoldable pub messages_from : (version most : ℕ) → List ℕ → List Message
messages_from version zero s = []
messages_from version (suc most) s =
    let front = front_length version s in
    cond (front == 0) [] (message_at version (take front s) ∷ messages_from version most (drop front s))

-- all of them: no message is empty, so they are not more than the bytes
abbrev pub messages_in : ℕ → List ℕ → List Message
messages_in version s = messages_from version (length s) s

-- "messages of the version converted from, end to end, with nothing left over": those that the bytes begin with take them all
abbrev pub is_log : ℕ → List ℕ → Bool
is_log version s = length (log_bytes (messages_in version s)) == length s
