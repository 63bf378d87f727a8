pub mod Run
pub mod Kind
