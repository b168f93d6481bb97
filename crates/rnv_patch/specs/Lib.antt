pub mod Lines
pub mod Diff
pub mod Names
pub mod Written
pub mod Trimmed
pub mod Hunks
pub mod File
pub mod Patch
