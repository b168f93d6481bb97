pub mod File
pub mod FileReading
pub mod Found
pub mod Front
pub mod Held
pub mod Reading
pub mod Readings
pub mod Start
