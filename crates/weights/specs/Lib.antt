pub mod Settled
pub mod Stepped
pub mod Weighed
