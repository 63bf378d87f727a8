pub mod Found
pub mod Needs
pub mod Learning
pub mod Judging
pub mod Restored
pub mod Unread
pub mod Told
pub mod Examples
