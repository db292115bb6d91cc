pub mod WellFormed
pub mod FaultText
pub mod Searches
