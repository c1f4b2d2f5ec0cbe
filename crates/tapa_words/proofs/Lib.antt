pub mod Asked
pub mod Cuts
pub mod Names
pub mod Numbers
pub mod Written
