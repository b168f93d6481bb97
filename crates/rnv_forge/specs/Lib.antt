pub mod ByName
pub mod Forge
pub mod Held
pub mod InMemory
pub mod Laws
pub mod Refused
pub mod Start
pub mod Writes
