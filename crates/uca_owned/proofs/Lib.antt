pub mod InMemory
mod KeyBounds
pub mod OrderLemmas
mod Rejected
mod SharedBytes
