pub mod OneRun
pub mod Among
pub mod Filled
pub mod Readable
