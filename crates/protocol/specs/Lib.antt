-- Algorithm 1, the ledger, and the theorem that ties them. Each file says in its first line what it is: DEFINITIONS and CLAIMS are what a reader
-- has to believe, and LAWS are what the proofs cite. Read `Ledger`, `Chassis` and `Claims` first.

-- DEFINITIONS
pub mod Limits
pub mod Refusals
pub mod Checks
pub mod Functions
pub mod Entry
pub mod Names
pub mod Ledger
pub mod Chassis
pub mod Algorithm1
pub mod Rows
pub mod Acceptance
pub mod Runs
pub mod Store
-- One counter's own steps; a counter that one card clears; increments received; amounts; deliveries in rounds; messages made and received; what was cleared.
pub mod Alone
pub mod OneClears
pub mod Increments
pub mod InARow
pub mod Singly
pub mod RoundRobin
pub mod Pending
pub mod History
pub mod Cleared
pub mod Quiet
