pub mod Cuts
mod Differences
mod EditLaw
mod Edited
mod Fitting
pub mod Kept
pub mod Marks
mod Replacing
mod Spans
mod Tools
mod Unique
