pub mod Sound
pub mod OfCatalogue
pub mod Binding
