pub mod Few
pub mod Told
pub mod Again
pub mod Reread
