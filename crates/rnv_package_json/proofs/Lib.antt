mod Again
mod Cuts
mod Edits
mod Marks
mod Rests
mod Spelled
mod Strings
mod Takes
mod Turns
pub mod Whole
mod Words
