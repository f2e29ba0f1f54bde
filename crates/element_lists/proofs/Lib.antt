pub mod Determined
pub mod Hexadecimal
pub mod Joining
