pub mod Causes
pub mod Comparers
pub mod Heads
pub mod inside
