pub mod Passed
pub mod Packed
pub mod Writing
pub mod Stopping
pub mod SameRows
pub mod Reporting
pub mod Answering
