pub mod Hex
pub mod Faults
pub mod Messages
