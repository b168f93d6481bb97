pub mod Edits
pub mod Finds
pub mod Marks
pub mod Splice
pub mod Steps
pub mod Tool
