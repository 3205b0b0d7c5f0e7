pub mod Readings
pub mod Asked
pub mod Start
pub mod Hearing
