pub mod Found
pub mod NameTables
pub mod Chaining
pub mod OrderedNames
pub mod Shortness
