pub mod Refusals
pub mod FaultText
pub mod inside
