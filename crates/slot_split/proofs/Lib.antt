pub mod Parting
pub mod Corners
pub mod Grids
pub mod Levels
pub mod Sums
pub mod Single
