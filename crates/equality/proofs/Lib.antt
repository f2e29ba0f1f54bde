pub mod Widening
pub mod Tabulating
pub mod Factoring
