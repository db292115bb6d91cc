pub mod Narrow
pub mod Pairs
pub mod Shared
pub mod inside
