pub mod Places
pub mod Values
pub mod Bytes
pub mod Signs
pub mod Gaps
pub mod Pieces
pub mod Cuts
pub mod Whole
