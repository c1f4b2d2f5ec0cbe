pub mod Tasks
pub mod Uppers
pub mod Views
pub mod Signatures
