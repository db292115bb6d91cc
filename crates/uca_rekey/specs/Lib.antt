pub mod ChangedLines
pub mod ChangeRun
pub mod Laws
pub mod WorkedLines
pub mod inside
