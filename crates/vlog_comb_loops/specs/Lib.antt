pub mod Summaries
pub mod Growth
pub mod Merges
pub mod Places
pub mod Rooms
pub mod Search
pub mod Questions
