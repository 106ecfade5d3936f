pub mod ListingLaws
pub mod Claims
pub mod Examples
