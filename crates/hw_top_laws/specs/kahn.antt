pub mod Carries
pub mod Excluded
