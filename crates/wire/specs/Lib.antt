-- Messages as bytes, and bytes as messages. Each file says in its first line what it is: DEFINITIONS and CLAIMS are what a reader has to believe, and
-- LAWS are what the proofs cite. Read `Message` and `Claims` first.

-- DEFINITIONS
pub mod Number
pub mod Message
pub mod MessageParts
pub mod Told
-- CLAIMS
pub mod Claims
pub mod Examples
-- LAWS
pub mod NumberLaws
pub mod KindLaws
pub mod RangeLaws
pub mod EntriesLaws
pub mod Bounds
pub mod WriteLaws
pub mod MessageLaws
pub mod MessagePartsLaws
pub mod RoundTrips
