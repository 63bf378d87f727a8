pub mod Verdict
pub mod Examples
