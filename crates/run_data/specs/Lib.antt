pub mod Answer
pub mod Data
pub mod Lines
pub mod Report
pub mod Seen
