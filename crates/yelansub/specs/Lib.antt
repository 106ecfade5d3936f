pub mod ClearLaws
pub mod RecordsLaws
