pub mod Names
pub mod Bounds
pub mod Texts
pub mod Channels
pub mod Designs
pub mod Legal
