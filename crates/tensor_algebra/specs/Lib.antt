pub mod Tensor
pub mod Subsets
pub mod Buckets
pub mod Legs
