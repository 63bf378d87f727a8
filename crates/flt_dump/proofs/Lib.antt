pub mod Holding
pub mod Paging
pub mod Passed
pub mod Putting
pub mod Listings
pub mod Steps
