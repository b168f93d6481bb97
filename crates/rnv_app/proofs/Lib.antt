pub mod Turns
pub mod Parts
pub mod Four
pub mod Ends
pub mod Imported
pub mod Stores
pub mod Answers
