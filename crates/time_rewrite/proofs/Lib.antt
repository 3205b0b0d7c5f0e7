pub mod Forms
mod Folding
pub mod TimelessLemmas
mod ValueLemmas
mod Refusals
mod Wholes
