pub mod ByOption
pub mod Bytes
pub mod Grown
pub mod Joined
pub mod Shown
pub mod Told
