pub mod ValueReading
pub mod BlockReading
pub mod Finishing
pub mod Refused
pub mod Texts
