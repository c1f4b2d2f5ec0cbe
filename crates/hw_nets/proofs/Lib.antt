pub mod Grows
pub mod Shapes
pub mod Rows
