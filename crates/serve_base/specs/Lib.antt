pub mod Status
pub mod Reader
pub mod Start
pub mod Firsts
pub mod Names
pub mod Shown
pub mod Stamps
