pub mod DeliverLaws
pub mod Ready
pub mod Rounds
pub mod RoundsLaws
