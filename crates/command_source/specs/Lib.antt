pub mod Labels
pub mod Named
pub mod Owned
pub mod Codes
pub mod Inputs
pub mod Means
pub mod Refused
pub mod Source
