pub mod Stores
pub mod Constant
pub mod Writers
