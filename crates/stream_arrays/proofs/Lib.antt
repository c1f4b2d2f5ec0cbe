pub mod Writers
pub mod Feeds
pub mod FormFeeds
pub mod Turns
pub mod Closings
mod Trees
pub mod Copies
pub mod Tables
pub mod Arguments
pub mod Steps
pub mod Ends
