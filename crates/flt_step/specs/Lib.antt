pub mod Part
pub mod Puts
pub mod Step
pub mod Words
