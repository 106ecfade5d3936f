pub mod Decimal
pub mod Put
pub mod DecimalLaws
pub mod Powers
