pub mod Sums
pub mod Equality
pub mod Gathered
pub mod Columns
pub mod Cells
pub mod Factored
pub mod Lent
