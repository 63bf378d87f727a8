pub mod Fee
pub mod Mounted
pub mod Refusal
pub mod Costs
pub mod Wear
pub mod Stored
pub mod Examples
