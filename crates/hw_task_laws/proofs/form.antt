pub mod Task
pub mod Asked
pub mod States
pub mod Entries
pub mod Parts
pub mod Whole
