pub mod LogWalkLaws
pub mod OutcomeLaws
pub mod PartExamples
pub mod PartLaws
pub mod RunningLaws
