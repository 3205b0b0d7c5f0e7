pub mod TurnLemmas
pub mod SmallSets
