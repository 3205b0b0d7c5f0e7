pub mod Initial
pub mod Gates
pub mod Entries
pub mod Candidates
pub mod Refusals
pub mod Receptions
pub mod Entrances
pub mod Trying
