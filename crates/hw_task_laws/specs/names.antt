pub mod Countable
pub mod Ports
