pub mod Rows
pub mod Bounds
pub mod Named
pub mod Nets
pub mod Empty
pub mod Sorts
pub mod Ported
pub mod Lined
