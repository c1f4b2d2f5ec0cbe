pub mod Counts
pub mod FirstFile
pub mod FurtherFile
pub mod Joined
pub mod Never
pub mod Taking
pub mod Texts
