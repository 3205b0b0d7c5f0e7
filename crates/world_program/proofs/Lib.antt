mod Trees
pub mod Statements
mod SameLemmas
mod GateLemmas
mod Backends
mod Sessions
mod Beginning
mod Stepping
mod UnderWay
pub mod Alike
pub mod Playing
pub mod OneStore
pub mod ProgramMarks
