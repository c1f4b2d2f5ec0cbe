pub mod Grown
pub mod Still
pub mod Sums
pub mod Below
pub mod OneAdded
