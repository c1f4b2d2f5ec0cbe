pub mod Built
pub mod Means
