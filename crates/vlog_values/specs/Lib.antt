pub mod Numbers
pub mod Scopes
