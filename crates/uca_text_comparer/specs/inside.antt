pub mod Beginnings
pub mod LevelOne
pub mod Pairs
pub mod Primaries
pub mod Shared
