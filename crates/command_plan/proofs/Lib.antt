pub mod Carried
pub mod FirstLabel
pub mod Taking
