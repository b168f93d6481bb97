pub mod Fakes
pub mod Wire
