pub mod Begun
pub mod Front
pub mod OnDisk
pub mod Planned
pub mod Repository
pub mod Run
pub mod Stage
pub mod Text
