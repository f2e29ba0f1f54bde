pub mod Shown
pub mod Hexes
pub mod Parsing
pub mod Mapped
