pub mod Shapes
pub mod Answering
pub mod Endings
pub mod Only
pub mod MemoryWords
