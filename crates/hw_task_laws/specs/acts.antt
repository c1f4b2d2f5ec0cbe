pub mod Reads
pub mod Moves
