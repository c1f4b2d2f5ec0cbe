pub mod runs
pub mod loops
pub mod widths
pub mod Beside
