-- The layout and its laws; what each call does; its orders, computed.
pub mod Layout
pub mod Format
pub mod Calls
pub mod Told
-- Laws: tests and plain facts, refusals, what a message does, what a card sends and takes.
pub mod ClaimTerms
-- The active counters.
pub mod Active
-- The calls beside the paper's Algorithm 1.
pub mod Paper
