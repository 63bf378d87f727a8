pub mod Answer
pub mod Block
pub mod Boot
pub mod Room
pub mod Life
pub mod Left
