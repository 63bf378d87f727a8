pub mod Splicing
pub mod Paging
pub mod Operating
