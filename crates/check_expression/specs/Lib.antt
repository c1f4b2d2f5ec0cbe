pub mod Kinds
pub mod Expressions
pub mod Counts
pub mod Constants
pub mod Methods
