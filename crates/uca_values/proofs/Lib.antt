pub mod Rising
pub mod Leads
pub mod ImplicitPairs
pub mod Gaps
pub mod LowClasses
pub mod RowParts
