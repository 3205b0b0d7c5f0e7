pub mod Naming
pub mod Statements
pub mod Targets
pub mod Checking
