pub mod Agreeing
pub mod Ends
pub mod Parts
