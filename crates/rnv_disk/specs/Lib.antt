pub mod Course
pub mod Images
pub mod Stops
