pub mod Openings
pub mod Batches
