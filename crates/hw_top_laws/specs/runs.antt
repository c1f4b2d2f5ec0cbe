pub mod Parts
pub mod Designs
