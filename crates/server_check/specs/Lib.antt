pub mod Servers
pub mod Faults
pub mod Texts
pub mod Questions
pub mod Readings
pub mod Start
pub mod Numbers
pub mod Starts
