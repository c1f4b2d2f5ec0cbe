pub mod Graphs
pub mod Marks
pub mod Visits
pub mod Orders
