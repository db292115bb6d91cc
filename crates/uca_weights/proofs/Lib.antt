pub mod Lists
pub mod Tests
pub mod NumberLemmas
pub mod WriteLemmas
pub mod PerLevel
pub mod RunMaps
pub mod RunPlaces
pub mod RunSteps
