pub mod Ends
pub mod Calls
pub mod Treats
pub mod Each
pub mod Whole
