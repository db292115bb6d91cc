pub mod Bounds
pub mod Causes
pub mod Opening
pub mod Orders
pub mod Owned
pub mod inside
