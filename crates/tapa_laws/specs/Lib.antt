pub mod written
pub mod kahn
pub mod memories
pub mod circuits
pub mod plans
pub mod commands
pub mod simulations
pub mod sources
