pub mod Channels
pub mod Tasks
pub mod Designs
