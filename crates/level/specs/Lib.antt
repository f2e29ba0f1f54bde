pub mod Element
pub mod Laws
pub mod Bytes
