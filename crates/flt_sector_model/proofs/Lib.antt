pub mod Items
pub mod Told
pub mod Logged
pub mod Wrong
pub mod GateCases
pub mod First
pub mod LastRecord
pub mod Blank
