pub mod Chaining
pub mod Everything
pub mod LeastMaps
pub mod Index
pub mod Borders
