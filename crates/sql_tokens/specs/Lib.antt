pub mod Words
pub mod Bytes
pub mod Pieces
pub mod Tokens
pub mod Calls
pub mod Grammar
pub mod Reading
