pub mod Scopes
pub mod Faults
pub mod Answers
pub mod Roles
pub mod Users
pub mod One
