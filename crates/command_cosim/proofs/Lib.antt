pub mod Carried
pub mod DesignShapes
pub mod Faults
