pub mod Layers
pub mod Summaries
pub mod Network
pub mod Nothing
pub mod Means
