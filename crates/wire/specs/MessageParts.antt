-- DEFINITIONS. The parts of a message as they stand in the bytes from a position on, each number where the one before it ends, and the position behind each part (SPECIFICATION 2).
use Rattle.std.specs.Prelude.{ℕ, ◌+◌, List}
use Rattle.wire.specs.Number.{hyper_width, int_at, hyper_at}
use Rattle.wire.specs.Message.{header_length, increment_body_length, amount_length, entry_length, kind_at, sender_at, sequence_at, counter_at}
pub use Rattle.wire.specs.declared.reader.Header.{Header}
pub use Rattle.wire.specs.declared.reader.Increment.{Increment}

abbrev pub header_at : List ℕ → ℕ → Header
header_at s at = record {
  version = int_at s at;
  kind = int_at s (at + kind_at);
  sender = int_at s (at + sender_at);
  sequence = hyper_at s (at + sequence_at);
  counter = int_at s (at + counter_at);
}

abbrev pub behind_header : ℕ → ℕ
behind_header at = at + header_length

-- what every increment has behind its header
abbrev pub increment_at : List ℕ → ℕ → Increment
increment_at s at = record { p = hyper_at s at; start = int_at s (at + hyper_width) }

abbrev pub behind_increment : ℕ → ℕ
behind_increment at = at + increment_body_length

-- where the version has no amount, it is no bytes
abbrev pub behind_amount : ℕ → ℕ → ℕ
behind_amount version at = at + amount_length version

abbrev pub behind_entry : ℕ → ℕ
behind_entry at = at + entry_length
