pub mod Ranges
pub mod Laws
pub mod WorkedRanges
pub mod inside
