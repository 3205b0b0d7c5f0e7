pub mod Holders
pub mod Members
pub mod Splits
