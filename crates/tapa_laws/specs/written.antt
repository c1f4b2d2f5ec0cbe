pub mod WrittenLexemes
pub mod Lines
