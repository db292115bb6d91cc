pub mod RowLists
pub mod CharMaps
pub mod Tries
pub mod NumberedKeys
pub mod TextMatches
pub mod OwnedCollations
