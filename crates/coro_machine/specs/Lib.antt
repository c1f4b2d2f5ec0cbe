pub mod Compute
pub mod Block
pub mod Stored
pub mod Step
pub mod Run
pub mod Tick
pub mod Coro
