pub mod Spaced
pub mod Texts
pub mod Fronts
pub mod Once
pub mod Back
pub mod Unticked
pub mod TickedBoxes
