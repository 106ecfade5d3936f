-- CLAIMS
pub mod Claims
pub mod Examples
-- LAWS
-- Messages that count by one, and what version 1's rules make of them.
pub mod Singles
pub mod OldRules
pub mod OldMessages
pub mod OldLogs
-- A chassis of old and new cards beside the theory's and a driver's cards, step by step, and the theorems.
pub mod Beside
pub mod MadeBeside
pub mod MadeNumbers
pub mod DeliveredBeside
pub mod CardsBeside
pub mod StepBeside
pub mod Theorem
pub mod HistoryLaws
