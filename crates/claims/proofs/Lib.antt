pub mod Weighing
pub mod ColumnWeights
pub mod Opened
