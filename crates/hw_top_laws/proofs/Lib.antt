pub mod joins
pub mod names
pub mod modules
pub mod form
pub mod design
pub mod runs
pub mod kahn
pub mod circuit
