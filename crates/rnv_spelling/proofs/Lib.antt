pub mod Formats
pub mod Readings
pub mod WriteFormats
