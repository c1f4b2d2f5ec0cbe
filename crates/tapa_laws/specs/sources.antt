pub mod OneMeaning
pub mod Sources
