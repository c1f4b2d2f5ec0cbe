pub mod Designs
pub mod Environments
