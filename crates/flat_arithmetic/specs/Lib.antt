pub mod Compute
pub mod Simple
pub mod Sizes
pub mod Signs
