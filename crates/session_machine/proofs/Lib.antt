pub mod Backends
pub mod SameCode
pub mod Turns
