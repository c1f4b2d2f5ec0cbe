pub mod SlowSteps
pub mod SlowFlows
pub mod SlowStatements
pub mod RoundLists
pub mod Kept
pub mod KeptRounds
