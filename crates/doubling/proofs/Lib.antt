pub mod Products
pub mod Shifts
pub mod Bits
