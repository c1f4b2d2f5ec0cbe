pub mod Dots
pub mod Plain
pub mod Climbed
pub mod Flat
