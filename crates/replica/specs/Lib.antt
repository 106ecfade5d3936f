-- What read adds up, and a claim on it.
pub mod Sums
pub mod Holders
