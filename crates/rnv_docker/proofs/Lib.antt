mod Again
mod Bools
mod Feeds
mod Images
mod Lines
mod Parts
pub mod Pieces
mod Stages
mod Steps
mod Words
