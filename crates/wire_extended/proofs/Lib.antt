pub mod BindLemmas
pub mod Running
