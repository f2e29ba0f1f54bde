pub mod Prefixes
pub mod Means
