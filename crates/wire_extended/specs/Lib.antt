pub mod Keeping
pub mod Naming
pub mod Binding
pub mod Parsing
pub mod Describing
pub mod Giving
pub mod Executing
