pub mod Ranges
pub mod Content
pub mod Implicit
pub mod Worked
pub mod Adding
pub mod FaultText
pub mod inside
