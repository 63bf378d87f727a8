pub mod Carried
pub mod Diary
pub mod Examples
pub mod Made
