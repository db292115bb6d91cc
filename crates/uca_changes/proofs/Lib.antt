pub mod Points
pub mod Unaffected
pub mod FromTailorings
pub mod WorkedChanges
pub mod AffectedTexts
