pub mod Gaps
pub mod LowClasses
pub mod RowParts
