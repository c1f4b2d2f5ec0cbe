pub mod ReadPorts
pub mod Stands
pub mod Promise
