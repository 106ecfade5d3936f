-- DEFINITIONS. What a step answers of what it gives, and what a host is told of deliveries:
-- "An accepted call's number is 0. A refused call answers the refusal's number and zeros".
use Rattle.std.specs.Prelude.{ℕ, Result}
use Rattle.protocol.specs.Refusals.{number_of}
use Rattle.protocol.specs.declared.Refusal.{Refusal}
use Rattle.chassis_model.specs.declared.StepAnswer.{StepAnswer}
use Rattle.chassis_model.specs.declared.Delivered.{Delivered}

-- a step that is done gives the value read, 0 where it reads none
abbrev pub step_answer : Result ℕ Refusal → StepAnswer
step_answer (Result.Ok value) = record { number = 0; value = value }
step_answer (Result.Err refusal) = record { number = number_of refusal; value = 0 }

abbrev pub delivered_answer : Result ℕ Refusal → Delivered
delivered_answer (Result.Ok deliveries) = record { number = 0; deliveries = deliveries }
delivered_answer (Result.Err refusal) = record { number = number_of refusal; deliveries = 0 }
