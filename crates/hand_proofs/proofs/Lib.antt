pub mod Again
pub mod ByHand
pub mod Called
