pub mod Numbers
pub mod Reached
pub mod Rows
pub mod Visits
pub mod Marking
