pub mod Rows
pub mod TowerSteps
pub mod PolynomialSteps
pub mod Bytes
