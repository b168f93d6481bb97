pub mod Lines
pub mod Page
pub mod Ticks
pub mod Boxes
pub mod Seen
