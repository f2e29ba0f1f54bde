pub mod Adding
pub mod Halving
pub mod RowsByHalves
pub mod ReadingBits
pub mod ReadingBytes
