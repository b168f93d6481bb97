pub mod Body
pub mod Json
pub mod Paths
