pub mod Coming
pub mod Turns
