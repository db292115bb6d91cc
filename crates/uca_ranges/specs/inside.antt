pub mod LevelsLength
pub mod WeightCounts
pub mod NoPoints
