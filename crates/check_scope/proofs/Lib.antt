pub mod Order
pub mod Scopes
pub mod Tables
pub mod Only
