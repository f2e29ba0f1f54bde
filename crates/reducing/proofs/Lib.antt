pub mod Keeping
pub mod Answered
pub mod Packing
