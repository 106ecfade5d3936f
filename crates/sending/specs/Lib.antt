-- What is sent: what both kinds share, then a count's and a clear's.
pub mod SendLaws
pub mod CountLaws
pub mod ClearLaws
