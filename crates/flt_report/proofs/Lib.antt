pub mod Fronts
pub mod Written
pub mod PartsLeft
pub mod Possible
