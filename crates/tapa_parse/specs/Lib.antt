pub use Rattle.tapa_parse_expression.specs.Readers
pub mod Reading
pub mod Passing
pub mod Begins
pub mod Answers
