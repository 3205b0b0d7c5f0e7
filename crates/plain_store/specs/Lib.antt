pub mod Phases
pub mod Meaning
pub mod Giving
pub mod Kept
pub mod States
pub mod Deciding
pub mod Steps
pub mod Blanks
