pub mod DecimalLaws
pub mod PutLaws
pub mod TextLaws
pub mod Claims
pub mod Examples
