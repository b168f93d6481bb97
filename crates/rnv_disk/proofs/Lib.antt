mod Ranges
mod OneMore
mod Noted
mod Stopped
pub mod Moments
