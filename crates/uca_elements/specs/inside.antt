pub mod Extensions
pub mod Rest
