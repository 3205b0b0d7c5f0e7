pub mod Codes
pub mod State
pub mod Copies
pub mod Rules
pub mod Allowed
pub mod Runs
pub mod Asking
pub mod Testing
