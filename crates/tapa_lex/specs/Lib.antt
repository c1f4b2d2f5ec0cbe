pub mod Reading
pub mod Refusals
pub mod Standing
