pub mod Members
pub mod PathTest
pub mod Reading
