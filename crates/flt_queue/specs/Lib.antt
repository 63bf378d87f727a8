pub mod Reply
pub mod Queue
pub mod Stands
pub mod Call
pub mod Laws
