pub mod Parsed
pub mod Numerals
pub mod First
