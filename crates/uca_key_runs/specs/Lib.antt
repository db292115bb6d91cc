pub mod Keys
pub mod KeysRun
pub mod CompareRun
pub mod SortRun
pub mod Laws
pub mod inside
