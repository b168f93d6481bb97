pub mod Grammar
pub mod Images
pub mod Lines
pub mod Read
pub mod Stages
pub mod Words
