pub mod Running
mod Tables
