pub mod Collations
pub mod KeyParts
pub mod KeptLines
pub mod KeyForms
pub mod SortSoFar
