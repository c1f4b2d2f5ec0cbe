pub mod Halving
pub mod Causes
pub mod Regions
