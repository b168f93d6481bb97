pub mod Told
pub mod Outcome
pub mod Tasks
