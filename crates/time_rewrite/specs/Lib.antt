pub mod Rewriting
pub mod Timeless
pub mod Literals
