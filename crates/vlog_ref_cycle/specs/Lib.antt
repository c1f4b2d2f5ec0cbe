pub mod Sources
pub mod Numbers
pub mod Next
pub mod Moments
