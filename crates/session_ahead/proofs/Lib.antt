pub mod Lists
pub mod Places
pub mod Chains
pub mod Staying
pub mod Kept
pub mod Entering
pub mod Primary
