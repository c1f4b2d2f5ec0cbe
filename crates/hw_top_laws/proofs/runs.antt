pub mod Elements
pub mod Joined
pub mod Values
pub mod Rows
pub mod Fitting
pub mod Tasks
pub mod Designs
