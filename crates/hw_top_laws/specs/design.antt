pub mod Outside
pub mod Order
pub mod Design
