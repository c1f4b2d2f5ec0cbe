pub mod Added
pub mod Tasks
pub mod Channels
pub mod Lower
