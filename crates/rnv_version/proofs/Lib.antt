pub mod Numerals
pub mod Tags
pub mod Fronts
pub mod CargoTexts
pub mod CargoClean
pub mod CargoMet
pub mod CargoReads
pub mod CargoGiven
pub mod TagGrammar
pub mod KindsRise
pub mod VersionBytes
pub mod CargoExact
mod Calm
pub mod Memory
pub mod Spelled
