-- A log of messages in the other version. Read `Conversion` and `Claims`.

-- DEFINITIONS
pub mod Conversion
pub mod ClaimTerms
