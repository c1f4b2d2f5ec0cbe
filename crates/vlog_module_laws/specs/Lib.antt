pub mod Blocks
pub mod Lines
pub mod Ranks
pub mod Larger
pub mod Labelled
pub mod Forms
