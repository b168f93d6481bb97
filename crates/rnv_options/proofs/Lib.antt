pub mod Ages
pub mod Asked
pub mod Joined
pub mod Listed
pub mod Turned
