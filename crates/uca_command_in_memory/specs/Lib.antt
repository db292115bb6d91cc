pub mod TextLists
pub mod MemoryFiles
pub mod Results
