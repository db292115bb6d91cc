pub mod StoredEnds
pub mod Places
pub mod Reading
pub mod LevelSteps
pub mod LevelsPut
