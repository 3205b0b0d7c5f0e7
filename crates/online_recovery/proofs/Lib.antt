pub mod Fitting
pub mod Proceeding
pub mod Calling
pub mod Keeping
pub mod Naming
pub mod Calls
pub mod Testing
pub mod Fewness
