pub mod Reactive
pub mod Circuits
pub mod Given
