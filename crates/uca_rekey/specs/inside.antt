pub mod LinesInPlace
pub mod ChangeSoFar
