pub mod Streams
pub mod Arcs
pub mod Estimate
pub mod Uses
pub mod Edges
pub mod Reach
pub mod Counted
pub mod Programs
