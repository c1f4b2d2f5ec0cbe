pub mod OneAnswer
pub mod KnownFiles
