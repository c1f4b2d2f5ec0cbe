pub mod BuiltRuns
pub mod DumpedRuns
pub mod OneText
