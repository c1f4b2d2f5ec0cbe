pub mod Runs
pub mod Orders
pub mod Rows
pub mod Marks
pub mod Blocks
