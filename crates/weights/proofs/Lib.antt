pub mod Combining
pub mod Settling
pub mod Weighing
