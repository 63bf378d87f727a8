pub mod Trace
pub mod Base
pub mod Call
pub mod Answered
pub mod Laws
