pub mod Free
pub mod Wires
pub mod Closed
pub mod Rested
