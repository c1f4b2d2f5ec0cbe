pub mod Answered
pub mod Moves
