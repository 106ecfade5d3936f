-- DEFINITIONS. The refusals by name, and the number that a host is told (SPECIFICATION 5.1): `Limits` has each with the words of its cause.
use Rattle.std.specs.Prelude.{ℕ, Result}
use Rattle.protocol.specs.Limits.{bad_replica, bad_row, bad_counter, exhausted, short_output, unreadable, bad_card, repeated, early, implausible, bad_sizes, bad_kind, nothing_waiting, log_full, bad_log, bad_amount, above_one}
use Rattle.protocol.specs.declared.Refusal.{Refusal}
use Rattle.protocol.specs.declared.Refusal.TheVariants.{BadReplica, BadRow, BadCounter, Exhausted, ShortOutput, Unreadable, BadCard, Repeated, Early, Implausible, BadSizes, BadKind, NothingWaiting, LogFull, BadLog, BadAmount, AboveOne}

abbrev pub number_of : Refusal → ℕ
number_of BadReplica = bad_replica
number_of BadRow = bad_row
number_of BadCounter = bad_counter
number_of Exhausted = exhausted
number_of ShortOutput = short_output
number_of Unreadable = unreadable
number_of BadCard = bad_card
number_of Repeated = repeated
number_of Early = early
number_of Implausible = implausible
number_of BadSizes = bad_sizes
number_of BadKind = bad_kind
number_of NothingWaiting = nothing_waiting
number_of LogFull = log_full
number_of BadLog = bad_log
number_of BadAmount = bad_amount
number_of AboveOne = above_one

-- the number of an answer: 0 where the call was accepted
abbrev pub number_in : {A : Type 0} → Result A Refusal → ℕ
number_in (Result.Ok x) = 0
number_in (Result.Err refusal) = number_of refusal
