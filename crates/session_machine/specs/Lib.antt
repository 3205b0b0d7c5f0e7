pub mod Codes
pub mod Answers
pub mod Classes
pub mod Rules
pub mod Allowed
pub mod Forms
