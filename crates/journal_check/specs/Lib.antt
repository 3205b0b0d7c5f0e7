pub mod Journals
pub mod Endings
