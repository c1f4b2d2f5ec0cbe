pub mod Scopes
pub mod Operators
pub mod Expressions
