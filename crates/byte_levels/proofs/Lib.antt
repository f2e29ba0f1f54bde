pub mod Coordinates
pub mod Selected
pub mod TowerProducts
pub mod PolynomialProducts
