pub mod LastCells
pub mod OneWay
pub mod Running
pub mod Sending
pub mod Starting
pub mod Totalling
pub mod Waiting
