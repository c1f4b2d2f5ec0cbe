pub mod Made
pub mod Written
pub mod Named
pub mod Bound
pub mod Top
