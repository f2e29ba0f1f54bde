pub mod Polynomial
pub mod Division
