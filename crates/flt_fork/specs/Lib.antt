pub mod Mixing
pub mod Making
pub mod Chain
pub mod Known
pub mod Lived
pub mod Runs
pub mod Seats
pub mod Passed
