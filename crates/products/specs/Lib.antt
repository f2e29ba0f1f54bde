pub mod Buckets
pub mod Halves
