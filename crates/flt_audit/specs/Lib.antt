pub mod Shape
pub mod Audit
