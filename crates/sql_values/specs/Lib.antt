pub mod Outcome
pub mod Arithmetic
pub mod Order
pub mod Logic
pub mod Meaning
