pub mod Nets
pub mod Operands
pub mod Drivers
pub mod Parts
pub mod Next
pub mod Ready
