pub mod OneGraph
pub mod OneDevice
pub mod OnePlan
pub mod OnePlanOf
