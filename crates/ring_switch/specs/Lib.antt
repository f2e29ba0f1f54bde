pub mod Opening
pub mod Claims
pub mod Batching
pub mod Slots
pub mod ClaimLaws
pub mod BatchingLaws
