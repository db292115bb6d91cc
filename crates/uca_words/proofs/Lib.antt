pub mod SubcommandWords
pub mod FullRows
pub mod NoHelp
pub mod Taken
pub mod Given
