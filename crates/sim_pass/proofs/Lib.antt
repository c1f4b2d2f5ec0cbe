pub mod Running
pub mod Ordering
pub mod Passing
pub mod Reading
pub mod Marking
pub mod Cleaning
