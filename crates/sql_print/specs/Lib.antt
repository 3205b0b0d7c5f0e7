pub mod Spelling
pub mod Writing
pub mod Between
pub mod Printed
