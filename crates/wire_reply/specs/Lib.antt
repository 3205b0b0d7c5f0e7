pub mod Sayings
pub mod Codes
pub mod Replies
pub mod Tags
pub mod Rows
