pub mod Clap
pub mod Command
