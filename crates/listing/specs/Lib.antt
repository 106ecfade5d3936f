pub mod Listing
pub mod Sizes
