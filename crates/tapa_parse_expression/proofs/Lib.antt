mod Symbols
pub mod Turns
pub mod Rows
pub mod Parts
pub mod SoundTypes
pub mod SoundExpressions
pub mod CompleteTypes
pub mod CompleteLevels
pub mod Begins
pub mod CompleteExpressions
pub mod Lists
pub mod CompleteLists
pub mod Passing
pub mod Fronts
pub mod SteadyLists
pub mod SteadyTypes
pub mod SteadyExpressions
pub mod SteadyCasts
