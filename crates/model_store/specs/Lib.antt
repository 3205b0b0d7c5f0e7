pub mod Coding
pub mod Stored
pub mod Phases
pub mod Seats
pub mod Conflicts
pub mod Verdicts
pub mod Meaning
pub mod Acting
