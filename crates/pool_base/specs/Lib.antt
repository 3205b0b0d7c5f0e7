pub mod formers
pub mod Codes
pub mod Sets
pub mod Outside
pub mod Reading
pub mod Planned
pub mod Moments
