pub mod Optional
pub mod Points
pub mod Sizes
pub mod Asking
pub mod Words
