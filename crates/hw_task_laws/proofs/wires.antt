pub mod Shown
pub mod Operated
pub mod Fixes
pub mod Computed
