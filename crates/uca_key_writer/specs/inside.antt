pub mod AsItIs
pub mod Beginnings
pub mod LevelBuffers
pub mod Pieces
pub mod Readings
pub mod Stretches
