pub mod Carried
pub mod NetFound
