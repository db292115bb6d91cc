pub mod Plain
pub mod Leaves
pub mod PointCache
