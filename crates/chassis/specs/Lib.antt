pub mod BeginLaws
pub mod InRun
pub mod PartOf
pub mod SizesChecked
pub mod SizesOf
pub mod StepCodeLaws
