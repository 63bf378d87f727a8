pub mod Sealed
pub mod TornBytes
pub mod TornWords
pub mod WordBytes
pub mod Unsealed
pub mod Unspoiled
pub mod WordCode
