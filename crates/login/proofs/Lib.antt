pub mod Names
pub mod Fitting
pub mod Going
