pub mod Fixes
pub mod Grown
