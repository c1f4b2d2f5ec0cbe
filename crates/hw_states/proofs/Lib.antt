pub mod ReadCounts
pub mod FirstStates
pub mod StateWires
pub mod Firsts
