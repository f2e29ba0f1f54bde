pub mod Halves
pub mod Doubled
pub mod Rings
pub mod Join
