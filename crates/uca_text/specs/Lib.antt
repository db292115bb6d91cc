pub mod Texts
pub mod Limits
pub mod Faults
pub mod FaultText
pub mod Laws
pub mod Occurring
pub mod inside
