pub mod Logs
pub mod Sums
pub mod Turns
pub mod Passes
pub mod Apart
