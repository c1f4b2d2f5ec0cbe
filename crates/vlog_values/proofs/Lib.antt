pub mod Cuts
pub mod Fits
pub mod Joins
pub mod Named
