pub mod Counts
pub mod StoredSteps
pub mod FrontLemmas
pub mod WalkSteps
pub mod LevelSteps
pub mod ComparisonLemmas
