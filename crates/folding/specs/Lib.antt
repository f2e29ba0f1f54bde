pub mod Folds
pub mod Slots
pub mod Openings
