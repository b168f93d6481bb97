pub mod Below
pub mod Differences
pub mod Imports
pub mod Printed
pub mod Puts
pub mod Refusals
pub mod Stops
pub mod Unique
