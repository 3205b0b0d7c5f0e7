pub mod Cuts
pub mod Numbers
pub mod Sets
pub mod Rows
pub mod Laws
mod Printing
