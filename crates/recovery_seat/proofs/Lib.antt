pub mod Among
mod StepLemmas
mod ArmLemmas
mod LayoutLemmas
pub mod Sessions
mod DueLemmas
mod SpeechLemmas
