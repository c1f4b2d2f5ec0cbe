pub mod Lengths
pub mod Nothings
pub mod Summing
pub mod Carried
