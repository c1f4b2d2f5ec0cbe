pub mod LegalOrRefused
pub mod OneMeaning
pub mod OneRefusal
pub mod Pieces
