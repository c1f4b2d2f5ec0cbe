pub mod Operands
pub mod ByState
