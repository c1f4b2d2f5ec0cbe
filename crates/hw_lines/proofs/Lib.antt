pub mod Names
pub mod Spelled
pub mod Members
pub mod Decodes
