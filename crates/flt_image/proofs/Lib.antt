pub mod Ranges
pub mod Indices
pub mod Takings
pub mod Rows
pub mod TableRows
pub mod Sizing
