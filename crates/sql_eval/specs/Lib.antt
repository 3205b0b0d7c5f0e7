pub mod Views
pub mod Walks
pub mod Ordered
pub mod Reads
pub mod Seeking
pub mod Stored
pub mod Inserts
pub mod Effects
