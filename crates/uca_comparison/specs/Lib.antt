pub mod Fronts
pub mod Walks
pub mod inside
