pub mod Elements
pub mod Digits
pub mod Ring
pub mod Words
pub mod Ands
