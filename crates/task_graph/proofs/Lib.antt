pub mod Element
pub mod Capped
pub mod Walks
pub mod Numbering
pub mod Sizes
pub mod Ranks
pub mod Made
