pub mod Shows
pub mod Computes
