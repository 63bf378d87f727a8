pub mod Strings
pub mod Line
mod InOrder
pub mod Blocks
pub mod Same
pub mod Numbers
pub mod Calls
mod Printed
mod Each
mod Filled
mod Covered
mod Paired
mod Calling
pub mod Due
mod Put
