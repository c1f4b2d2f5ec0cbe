pub mod Planned
pub mod Means
