pub mod Keyings
pub mod Rows
pub mod KeyLines
pub mod LineLaws
pub mod NumberLines
pub mod NormalLines
pub mod UntouchedLines
pub mod OneOrder
pub mod KeyRuns
pub mod Comparing
pub mod ShortOutput
pub mod SummedFiles
pub mod KeyHeaders
pub mod SortRuns
pub mod KeptText
pub mod KeyOrdering
pub mod Prefixes
pub mod KeyOrders
pub mod Groups
pub mod StoredLines
pub mod GroupKeys
mod ShownKeys
mod KeyLevels
