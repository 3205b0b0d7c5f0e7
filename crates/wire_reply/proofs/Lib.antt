pub mod Cells
pub mod RowSteps
pub mod Short
