pub mod Ending
pub mod Fresh
pub mod Laws
pub mod Pauses
pub mod Run
pub mod Started
pub mod Totals
