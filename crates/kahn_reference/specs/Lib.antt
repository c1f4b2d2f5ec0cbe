pub mod Slow
pub mod Kept
