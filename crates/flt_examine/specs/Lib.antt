pub mod Command
pub mod Inspection
pub mod Source
pub mod Lines
pub mod Traced
pub mod Examination
pub mod Examples
