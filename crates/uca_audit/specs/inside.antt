pub mod Anchors
pub mod Chaining
pub mod KnownWeights
pub mod NewWeights
pub mod PlacedRows
pub mod Views
pub mod WeightSets
