-- A run of steps over replicas and logs, and a driver's calls on separate replicas. Each file says in its first line what it is: DEFINITIONS and CLAIMS are what a
-- reader has to believe, and LAWS are what the proofs cite. Read `Run`, `Ledger` and `Claims` first; for a driver, `Driver` and `DriverClaims`.

-- DEFINITIONS
pub mod ListParts
pub mod Log
pub mod Run
pub mod Ledger
pub mod Answers
pub mod Told
pub mod Driver
pub mod Alone
pub mod ReadAndClearOf
pub mod Algorithm1Of
pub mod Pending
pub mod HistoryOf
pub mod Cleared
pub mod ActiveOf
