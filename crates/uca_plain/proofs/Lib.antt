pub mod Results
pub mod LeafReading
pub mod PlainTexts
pub mod PlainEntries
