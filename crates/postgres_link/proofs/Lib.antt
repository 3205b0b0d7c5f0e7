pub mod Fronts
pub mod Cells
pub mod Tags
pub mod Steps
pub mod Cuts
