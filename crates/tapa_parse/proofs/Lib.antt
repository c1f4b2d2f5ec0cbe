mod Rows
pub mod SoundLevels
pub mod SoundActions
pub mod SoundStatements
pub mod SoundTasks
pub mod Passing
pub mod CompleteActions
pub mod CompleteLengths
pub mod CompleteStatements
pub mod CompleteTasks
pub mod CompleteFiles
pub mod SteadyActions
pub mod SteadyStatements
pub mod SteadyTasks
pub mod Places
