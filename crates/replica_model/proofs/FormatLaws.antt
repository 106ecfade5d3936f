-- LAWS. Version 2 of the format: what is written is of that version, and how long its bytes are.
use Rattle.std.specs.Prelude.{ℕ, ◌≡◌, refl, length}
use Rattle.std.proofs.Common.{◌∙◌}
use Rattle.protocol.specs.Chassis.{Message, increment, clearing}
use Rattle.wire.specs.Message as form
use Rattle.wire.specs.Message.{version_2, message_bytes, message_length}
use Rattle.wire.specs.WriteLaws.{length_message_bytes}
use Rattle.replica_model.specs.Format.{on_wire, size_of}

pub on_wire_version : (s n : ℕ) (m : Message) → (on_wire s n m).version ≡ version_2
unfolding form.increment_message form.clear_message
on_wire_version s n (increment q w p start) = refl
on_wire_version s n (clearing q es) = refl

pub on_wire_size : (s n : ℕ) (m : Message) → message_length (on_wire s n m) ≡ size_of m
unfolding form.increment_message form.clear_message
on_wire_size s n (increment q w p start) = refl
on_wire_size s n (clearing q es) = refl

pub on_wire_length : (s n : ℕ) (m : Message) → length (message_bytes (on_wire s n m)) ≡ size_of m
on_wire_length s n m = length_message_bytes (on_wire s n m) ∙ on_wire_size s n m
