pub mod ElementsOfBytes
pub mod ElementsWritten
