pub mod Whole
pub mod Instances
pub mod Contents
pub mod Outside
pub mod Runs
