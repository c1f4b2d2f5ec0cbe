pub mod Ports
pub mod Clock
pub mod Pace
pub mod Asked
pub mod Carries
pub mod Gives
pub mod Excluded
pub mod Circuits
