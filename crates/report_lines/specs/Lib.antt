pub mod Packing
pub mod Opened
pub mod Batched
pub mod Lines
pub mod Report
pub mod Replies
pub mod Closings
pub mod Messages
