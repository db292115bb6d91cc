pub mod BufferLemmas
pub mod LeafSteps
pub mod PieceSteps
pub mod BeginningSteps
pub mod ByValue
pub mod WriterSteps
pub mod StretchSteps
