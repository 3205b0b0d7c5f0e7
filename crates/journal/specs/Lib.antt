pub mod Parts
pub mod Calls
pub mod Answers
pub mod Orders
pub mod Outcomes
pub mod Events
pub mod Header
