pub mod Upgrades
pub mod Laws
