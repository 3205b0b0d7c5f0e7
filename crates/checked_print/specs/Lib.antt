pub mod Moments
pub mod Spelled
pub mod Ranges
pub mod Statements
