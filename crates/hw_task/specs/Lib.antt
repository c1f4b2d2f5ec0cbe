pub mod Asked
pub mod Promise
