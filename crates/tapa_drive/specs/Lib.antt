pub mod Means
pub mod Answer
