pub mod Refusals
pub mod Kept
pub mod Standing
pub mod Giving
