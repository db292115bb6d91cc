pub mod Orders
pub mod LineLaws
pub mod Exact
pub mod FileLaws
pub mod WriteLaws
pub mod WorkedLaws
