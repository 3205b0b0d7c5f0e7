pub mod Function
pub mod Runs
