pub mod network
pub mod modules
