pub mod Table
pub mod Tries
pub mod Leaves
pub mod Driver
pub mod Reads
pub mod Blocks
