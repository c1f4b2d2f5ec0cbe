pub mod Places
pub mod Rows
pub mod Runs
pub mod Shapes
pub mod Comments
pub mod Sums
pub mod Values
