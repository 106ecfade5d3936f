-- CLAIMS
pub mod Claims
pub mod Scenarios
pub mod DriverClaims
pub mod DriverExamples
pub mod AgreementExamples
pub mod AloneClaims
pub mod AloneExamples
pub mod ReadAndClearClaims
pub mod ReadAndClearExamples
pub mod Algorithm1Claims
pub mod PendingClaims
pub mod PendingExamples
pub mod CaughtUpClaims
pub mod ClearClaims
pub mod ClearedExamples
pub mod QuietClaims
pub mod QuietExamples
pub mod ActiveClaims
-- LAWS. Lists in parts, logs of messages.
pub mod ListPartsLaws
pub mod LogLaws
pub mod Numbered
-- The cards beside the theory's chassis and ledgers; the two moves; what a card reads, sends and takes.
pub mod InStep
pub mod Moves
pub mod AcceptedMessages
pub mod ReadsOfReplicas
pub mod Makings
pub mod Sends
pub mod Takes
-- Lists of steps and answers as runs of the theory.
pub mod Offers
pub mod TheoryReads
pub mod Agreement
-- A state of a run beside them, and the steps, each beside the theory's.
pub mod Matches
pub mod FreshRun
pub mod MadeSteps
pub mod DeliveredSteps
pub mod StepLaws
-- Which runs are accepted; steps as bytes and as records.
pub mod RunLaws
pub mod StepBytesLaws
-- What follows: answers, the theorem; and for the code, the places of the links.
pub mod AnswerLaws
pub mod Theorem
pub mod AloneQueues
pub mod AloneLaws
pub mod AloneOthers
pub mod PendingChecked
pub mod PendingLaws
pub mod Ends
pub mod Places
-- The waiting message by its place.
pub mod Spans
-- A driver's cards beside the theory; its calls; what follows.
pub mod DriverMatches
pub mod DriverSteps
pub mod DriverResends
pub mod DriverResendsAll
pub mod DriverSame
pub mod DriverTheorem
pub mod DriverAlone
pub mod ReadAndClearLaws
pub mod ClearedLaws
pub mod QuietLaws
pub mod ActiveOfLaws
