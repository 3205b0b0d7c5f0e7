mod BlankLemmas
mod DueLemmas
mod RollLemmas
pub mod ServedLemmas
mod SharedLemmas
pub mod StepLemmas
mod SwapLemmas
mod SpeechLemmas
