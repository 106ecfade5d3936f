pub mod ChecksLaws
pub mod Each
pub mod Lent
pub mod PlacesLaws
