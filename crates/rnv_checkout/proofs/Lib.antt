pub mod Order
pub mod Outcomes
