pub mod Files
pub mod Upgrades
pub mod Causes
pub mod Opening
pub mod inside
