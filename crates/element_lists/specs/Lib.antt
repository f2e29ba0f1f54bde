pub mod Bytes
pub mod Elements
pub mod Messages
