pub mod Answering
pub mod Cases
