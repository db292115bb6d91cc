pub mod Outputs
pub mod Meanings
pub mod OneMeaning
pub mod KeptLines
pub mod Accepted
