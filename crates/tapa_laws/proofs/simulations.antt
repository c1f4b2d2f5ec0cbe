pub mod BuiltRuns
pub mod OneText
