pub mod Shifts
pub mod Growing
