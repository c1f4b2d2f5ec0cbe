pub mod Held
pub mod Outputs
