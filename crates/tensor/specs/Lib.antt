pub mod Steps
pub mod SuccessorTensors
