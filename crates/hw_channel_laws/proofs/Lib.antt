pub mod signals
pub mod modules
