pub mod Statements
pub mod Leaves
pub mod Views
pub mod Heads
pub mod Laws
