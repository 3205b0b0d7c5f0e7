pub mod Greetings
pub mod Opening
