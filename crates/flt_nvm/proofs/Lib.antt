pub mod Jobs
pub mod Served
pub mod Kept
pub mod Found
pub mod Looking
pub mod Counting
pub mod Named
pub mod Rows
