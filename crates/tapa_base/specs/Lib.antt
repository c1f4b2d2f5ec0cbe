pub mod Fits
pub mod Gaps
pub mod Kinds
pub mod Operators
pub mod Spans
pub mod Lists
