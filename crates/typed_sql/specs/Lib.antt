pub mod Steps
pub mod Places
pub mod Own
pub mod Typing
pub mod Meaning
