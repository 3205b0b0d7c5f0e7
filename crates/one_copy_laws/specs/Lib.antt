pub mod Acted
pub mod Caused
pub mod Covered
pub mod Dying
pub mod Ends
pub mod Remarked
pub mod Causes
pub mod Posts
