pub mod Civils
pub mod Listed
pub mod Moments
pub mod Prefix
pub mod Pieces
