pub mod Types
pub mod Values
pub mod Open
pub mod Steps
pub mod Grammar
pub mod Reading
pub mod Allowed
pub mod Ranges
