pub mod Command
pub mod Words
pub mod inside
