-- DEFINITIONS. What reads and writes the messages of a card: a version of the wire format, between bytes and Algorithm 1's messages. The calls take it as a
-- parameter, so another version is another `Format`.
use Rattle.std.specs.Prelude.{ℕ, List, Bool, cond, length, take, eqb}
use Rattle.protocol.specs.Chassis.{Message, increment, clearing}
use Rattle.wire.specs.declared.Message as wire
use Rattle.wire.specs.Message as form
use Rattle.wire.specs.Message.{version_2, increment_kind, increment_length, clear_length, message_at, message_bytes}

-- a message as a card takes it: who sent it, its number among all of that sender's messages, and what it says to Algorithm 1
pub record Received : Type 0 where
  pub sender : ℕ
  pub sequence : ℕ
  pub content : Message

pub record Format : Type 0 where
  -- do the bytes read, and as what?
  pub reads : List ℕ → Bool
  pub received : List ℕ → Received
  -- the bytes that a message is written as, and how many they are
  pub written : Received → List ℕ
  pub size : Message → ℕ

-- ---- version 2 of `wire`: "The calls of a card and of a chassis read and write version 2 only."

unfoldable pub content : wire.Message → Message
content m =
    cond (eqb m.kind increment_kind) (increment m.counter m.amount m.p (eqb m.start 1)) (clearing m.counter (take m.len m.entries))

abbrev pub on_wire : ℕ → ℕ → Message → wire.Message
on_wire sender sequence (increment q w p start) = form.increment_message version_2 sender sequence q p (cond start 1 0) w
on_wire sender sequence (clearing q es) = form.clear_message version_2 sender sequence q es

abbrev pub received_of : wire.Message → Received
received_of m = record { sender = m.sender; sequence = m.sequence; content = content m }

-- "40 in version 2", "28 + 20e bytes"
abbrev pub size_of : Message → ℕ
size_of (increment q w p start) = increment_length version_2
size_of (clearing q es) = clear_length (length es)

abbrev pub format_2 : Format
format_2 = record {
  reads = form.reads version_2;
  received = λ bytes. received_of (message_at version_2 bytes);
  written = λ m. message_bytes (on_wire m.sender m.sequence m.content);
  size = size_of;
}
