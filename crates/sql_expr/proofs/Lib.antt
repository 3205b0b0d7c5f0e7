pub mod Behind
pub mod Ends
pub mod Pieces
pub mod Laws
pub mod Same
pub mod Refusals
pub mod Places
pub mod Whole
