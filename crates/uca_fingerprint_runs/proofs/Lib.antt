pub mod BookText
pub mod SummedLines
pub mod SummedMeanings
pub mod Writing
