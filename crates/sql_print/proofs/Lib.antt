pub mod QuoteLemmas
pub mod Forms
pub mod Steps
