pub mod Lines
pub mod Letters
