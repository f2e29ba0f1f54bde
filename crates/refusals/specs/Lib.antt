pub mod Refusals
pub mod Steps
pub mod Words
