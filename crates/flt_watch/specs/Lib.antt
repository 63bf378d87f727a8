pub mod NoStore
pub mod Asked
pub mod Watched
pub mod Text
pub mod Watch
