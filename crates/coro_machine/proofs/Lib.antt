pub mod Ran
pub mod Pairs
pub mod Prepares
pub mod Steps
pub mod Places
mod Flat
mod Transfers
mod Counts
pub mod Ticks
pub mod Rest
pub mod Compute
pub mod Continue
pub mod Resumes
pub mod Begins
mod Goes
mod Led
mod Shifts
