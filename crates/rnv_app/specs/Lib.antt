pub mod Words
pub mod Text
pub mod Refusals
pub mod Top
