pub mod Unmoved
pub mod Prefix
pub mod Beside
pub mod Fixed
pub mod OneRun
pub mod Circuits
pub mod Given
