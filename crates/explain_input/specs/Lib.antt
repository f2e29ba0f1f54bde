pub mod Keys
pub mod Values
pub mod Inputs
pub mod Messages
