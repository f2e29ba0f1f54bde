pub mod CompletedTables
pub mod LookedUpSums
pub mod LookedUpChunks
