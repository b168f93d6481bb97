pub mod Edited
pub mod Histories
pub mod Once
