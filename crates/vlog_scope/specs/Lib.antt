pub mod NameTable
pub mod Chains
pub mod NamePlaces
