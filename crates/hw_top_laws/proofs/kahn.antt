pub mod Answers
pub mod Networks
pub mod Done
pub mod Carries
pub mod Waits
pub mod Gives
pub mod Excluded
