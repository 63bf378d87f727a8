pub mod Keyed
pub mod Rows
pub mod Table
pub mod Serves
pub mod Program
