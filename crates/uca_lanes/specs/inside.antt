pub mod Ends
pub mod Lanes
pub mod Marks
