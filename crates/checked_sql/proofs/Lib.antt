pub mod Forms
pub mod Bound
pub mod Limits
pub mod Kept
mod KeptStatements
