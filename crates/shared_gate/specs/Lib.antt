pub mod Words
pub mod History
pub mod Rule
