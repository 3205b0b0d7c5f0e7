pub mod Named
mod HeldBack
