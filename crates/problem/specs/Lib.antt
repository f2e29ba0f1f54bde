pub mod Task
pub mod Reading
pub mod Messages
