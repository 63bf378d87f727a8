pub mod Unlike
pub mod Shapes
