pub mod Ports
pub mod Rules
