pub mod Buffers
pub mod KeyLevels
pub mod Memories
pub mod Writers
pub mod inside
