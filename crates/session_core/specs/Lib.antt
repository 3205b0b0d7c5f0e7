pub mod Statements
pub mod Standing
pub mod Chains
pub mod Steps
