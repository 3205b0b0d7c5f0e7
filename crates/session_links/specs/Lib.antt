pub mod Rising
pub mod Slots
pub mod Plans
pub mod Verdicts
