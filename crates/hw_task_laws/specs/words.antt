pub mod Words
pub mod Signed
