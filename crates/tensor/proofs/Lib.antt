pub mod Tensors
pub mod Turns
pub mod ColumnTurns
pub mod Folds
