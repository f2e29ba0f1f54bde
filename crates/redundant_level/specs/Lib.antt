pub mod Coordinatewise
pub mod Shares
