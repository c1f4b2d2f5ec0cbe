pub mod KnownFiles
pub mod NetOnce
pub mod OneAnswer
pub mod OneStep
