-- DEFINITIONS. What a host is told of what a call gives: "An accepted call's number is 0. A refused call answers the refusal's number and zeros".
use Rattle.std.specs.Prelude.{ℕ, Result}
use Rattle.protocol.specs.Refusals.{number_of}
use Rattle.protocol.specs.declared.Refusal.{Refusal}
use Rattle.replica_model.specs.Calls.{Reading, no_reading, Active, no_active, Sent, Cleared, Taken}
pub use Rattle.replica_model.specs.declared.Held.{Held}
pub use Rattle.replica_model.specs.declared.Made.{Made}

abbrev pub read_answer : Result Held Refusal → Reading
read_answer (Result.Ok held) = record { number = 0; value = held.value; holders = held.holders; holder_count = held.holder_count }
read_answer (Result.Err refusal) = no_reading (number_of refusal)

abbrev pub active_answer : Result ℕ Refusal → Active
active_answer (Result.Ok counters) = record { number = 0; counters = counters }
active_answer (Result.Err refusal) = no_active (number_of refusal)

abbrev pub sent_answer : Result Made Refusal → Sent
sent_answer (Result.Ok made) = record { number = 0; sequence = made.sequence; length = made.length }
sent_answer (Result.Err refusal) = record { number = number_of refusal; sequence = 0; length = 0 }

-- the same with the value read
abbrev pub cleared_answer : Result Made Refusal → Cleared
cleared_answer (Result.Ok made) = record { number = 0; value = made.value; sequence = made.sequence; length = made.length }
cleared_answer (Result.Err refusal) = record { number = number_of refusal; value = 0; sequence = 0; length = 0 }

abbrev pub taken_answer : Result ℕ Refusal → Taken
taken_answer (Result.Ok sequence) = record { number = 0; sequence = sequence }
taken_answer (Result.Err refusal) = record { number = number_of refusal; sequence = 0 }
