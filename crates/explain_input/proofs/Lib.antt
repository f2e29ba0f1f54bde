mod Prefixes
mod Splitting
mod Collecting
pub mod Refusing
mod Determined
pub mod Saying
