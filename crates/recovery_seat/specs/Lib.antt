pub mod Schedule
pub mod Places
pub mod Steps
pub mod Sessions
pub mod Dues
pub mod Speech
