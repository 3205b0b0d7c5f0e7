pub mod Known
pub mod Rolls
pub mod Spares
