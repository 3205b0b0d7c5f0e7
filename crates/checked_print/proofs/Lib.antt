pub mod Forms
mod Places
pub mod Held
pub mod Dates
