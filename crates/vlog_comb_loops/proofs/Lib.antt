pub mod Asking
pub mod Gathering
pub mod Placing
pub mod Resting
pub mod Rooms
pub mod Searching
