-- What is read and taken, and entries that are absent.
pub mod ReadParts
pub mod Taking
pub mod AbsentEntries
