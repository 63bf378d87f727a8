pub mod Changes
pub mod Value
pub mod Rows
pub mod Subscribers
pub mod Table
pub mod Watch
pub mod Watched
pub mod Examples
