pub mod Kept
pub mod Signs
pub mod Simpler
