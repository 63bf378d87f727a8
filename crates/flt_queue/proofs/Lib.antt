pub mod Steps
pub mod Orders
pub mod Ranges
pub mod Notes
pub mod Handing
pub mod Dues
pub mod Refusals
pub mod Asks
