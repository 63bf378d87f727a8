pub mod Start
pub mod Call
pub mod Lock
pub mod Boxed
pub mod State
