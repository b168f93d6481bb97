pub mod Customs
pub mod Fits
pub mod Matchers
pub mod Readings
pub mod Table
