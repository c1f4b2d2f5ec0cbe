pub mod Operators
pub mod Tape
pub mod Solved
pub mod Trees
