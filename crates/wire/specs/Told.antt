-- DEFINITIONS. The kinds by name, a length that may be none, and what a host is told of what a call gives:
-- "An accepted call's number is 0. A refused call answers the refusal's number and zeros".
use Rattle.std.specs.Prelude.{ℕ, Option, Result, cond, ◌==◌}
use Rattle.protocol.specs.Refusals.{number_of}
use Rattle.protocol.specs.declared.Refusal.{Refusal}
use Rattle.protocol.specs.declared.Refusal.TheVariants.{Unreadable}
use Rattle.wire.specs.Message.{increment_kind, clear_kind, Message, Reading, read_declined, Written}
pub use Rattle.wire.specs.declared.Kind.{Kind}
use Rattle.wire.specs.declared.Kind.TheVariants.{Increment, Clear}

-- the kind that a number stands for; bytes with another number do not read
abbrev pub kind_of : ℕ → Result Kind Refusal
kind_of number = cond (number == increment_kind) (Result.Ok Increment) (cond (number == clear_kind) (Result.Ok Clear) (Result.Err Unreadable))

-- 0 stands for no length
abbrev pub unless_0 : ℕ → Option ℕ
unless_0 length = cond (length == 0) Option.None (Option.Some length)

abbrev pub message_answer : Result Message Refusal → Reading
message_answer (Result.Ok message) = record { number = 0; message = message }
message_answer (Result.Err refusal) = read_declined (number_of refusal)

abbrev pub written_answer : Result ℕ Refusal → Written
written_answer (Result.Ok length) = record { number = 0; length = length }
written_answer (Result.Err refusal) = record { number = number_of refusal; length = 0 }
