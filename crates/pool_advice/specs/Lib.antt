pub mod Faults
pub mod Wanting
pub mod Missing
