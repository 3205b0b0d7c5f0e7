pub mod Asking
pub mod Going
pub mod Transitions
pub mod Stages
