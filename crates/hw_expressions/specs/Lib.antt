pub mod Reads
pub mod Grown
