pub mod Rows
pub mod Telling
pub mod Failing
pub mod TakingParts
pub mod Blocks
pub mod Naming
pub mod Judged
