pub mod Out
pub mod Ends
pub mod Ticks
pub mod Seats
pub mod Turn
