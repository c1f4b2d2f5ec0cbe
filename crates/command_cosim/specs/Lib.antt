pub mod Designs
pub mod Means
