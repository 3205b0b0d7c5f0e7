pub mod Words
pub mod Line
pub mod Script
pub mod Reading
pub mod LineReading
pub mod Spelling
pub mod Rendering
