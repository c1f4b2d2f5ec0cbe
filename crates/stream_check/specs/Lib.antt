pub mod Items
pub mod Parts
pub mod Programs
pub mod Views
pub mod Laws
