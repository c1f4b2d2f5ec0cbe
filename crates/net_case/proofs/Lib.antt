pub mod Runs
pub mod Rooms
pub mod Says
pub mod Ran
pub mod Commits
pub mod Back
pub mod Holds
mod Again
mod Answered
mod Coming
mod Committed
mod Delivered
mod Few
mod Filled
mod Finish
mod Going
mod Left
mod Listing
mod Looking
mod Loops
mod Made
mod Outs
mod Over
mod Ported
mod Reserved
mod Returned
mod Same
mod Searching
mod Streams
mod Summed
mod Taking
mod Trying
